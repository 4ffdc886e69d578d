-- PREPARE, EXECUTE, EXPLAIN, DEALLOCATE and DISCARD are read exactly where they are spelt.
use Rattle.std.proofs.Common.{◌≡◌, inl, inr, ℕ, Bool, true, false, cond, ◌||◌, List, [], ◌∷◌, drop, codes, refl, ap, ◌∙◌, arith}
use Rattle.sql_tokens.specs.declared.token.Token.TheVariants as token
use Rattle.sql_tokens.specs.declared.token.Sign.TheVariants as sign
use Rattle.sql_tree.specs.declared.command.Command.{Command}
use Rattle.sql_tree.specs.declared.command.Command.TheVariants as command
use Rattle.sql_expr.specs.Reading.{Tokens, Parser, ◌>>=◌, ◌<$>◌, pure, refuse, eat_word, sees_word}
use Rattle.sql_expr.specs.Lines.{Line, gives, word as a_word}
use Rattle.sql_expr.specs.Lines as lines
use Rattle.sql_expr.specs.Names.{is_reserved, sees_name}
use Rattle.sql_expr.specs.Names as names
use Rattle.sql_reader_query.specs.Names.{optional_names}
use Rattle.sql_reader_session.specs.Prepared as spec
use Rattle.sql_reader.specs.Grammar.{deallocated as target}
use Rattle.sql_expr.proofs.LineWords.{nowhere, any}
use Rattle.sql_expr.proofs.Heads.{Barred, Head, and-left, and-right}
use Rattle.sql_expr.proofs.Agreement.{Agrees, nothing, bar_sign, word-seen, sees-word, tests-word, agrees-pure, agrees-refuse, agrees-bind, agrees-same, agrees-wider, agrees-test, agrees-word, agrees-sign, agrees-expect_word, agrees-expect_sign}
use Rattle.sql_expr.proofs.ListAgreement.{agrees-list}
use Rattle.sql_expr.proofs.ExpressionAgreement.{list_tail, agrees-name, agrees-expression}
use Rattle.sql_reader.proofs.CommandLines as line
use Rattle.sql_reader.proofs.NameAgreement.{agrees-enclosed_names}
use Rattle.sql_reader.proofs.StatementAgreement.{statement_tail, agrees-statement}
use Rattle.sql_reader.proofs.KeywordAgreement.{agrees-map, sees_before, both-true, Looks, agrees-before, name-there, name-sees}

-- ---- DEALLOCATE

-- what stands behind [PREPARE]
abbrev target_read : Parser Command
target_read = eat_word (codes "all") >>= (λ all. cond all (pure command.DeallocateAll) (command.Deallocate <$> names.name))

abbrev target_heads : List Head
target_heads = Head.word (codes "all") ∷ Head.name ∷ []

abbrev pub bar_targets : Barred
bar_targets = record { words = codes "all" ∷ []; signs = []; names = true; numbers = false; strings = false; params = false }

abbrev follows : Tokens → Bool
follows us = sees_name us || sees_word (codes "all") us

or-left : (a b : Bool) → a ≡ true → (a || b) ≡ true
or-left true b e = refl
or-left false b e = cc

or-right : (a b : Bool) → b ≡ true → (a || b) ≡ true
or-right true b e = refl
or-right false b e = e

-- ALL or a name comes next
target-there : (us : Tokens) → follows us ≡ true → (c : Command) × (vs : Tokens) × target us c vs
target-there us e = by (sees_word (codes "all") us) refl (sees_name us) refl e
  where
    by : (all : Bool) → sees_word (codes "all") us ≡ all → (named : Bool) → sees_name us ≡ named → (named || all) ≡ true → (c : Command) × (vs : Tokens) × target us c vs
    by true q named r e = (command.DeallocateAll, drop 1 us, inl (tt, drop 1 us, word-seen (codes "all") us q, (refl, refl)))
    by false q true r e = let found = name-there us r in (command.Deallocate found.0, drop 1 us, inr (found.0, drop 1 us, found.1, (refl, refl)))
    by false q false r e = cc

looks-target : Looks (sees_before (codes "prepare") follows) (codes "prepare") target
looks-target = record {
  yes = λ ts e. (word-seen (codes "prepare") ts (and-left (sees_word (codes "prepare") ts) (follows (drop 1 ts)) e), target-there (drop 1 ts) (and-right (sees_word (codes "prepare") ts) (follows (drop 1 ts)) e));
  sure = λ us c vs spelt. both-true (sees_word (codes "prepare") (token.Word (codes "prepare") ∷ us)) (follows us) (sees-word (codes "prepare") us) (sure us c vs spelt);
}
  where
    sure : (us : Tokens) (c : Command) (vs : Tokens) → target us c vs → follows us ≡ true
    sure us c vs (inl (u, middle, here, same)) = or-right (sees_name us) (sees_word (codes "all") us) (ap (sees_word (codes "all")) here.tokens ∙ sees-word (codes "all") middle)
    sure us c vs (inr (n, middle, spelt, same)) = or-left (sees_name us) (sees_word (codes "all") us) (name-sees us n middle spelt)

abbrev pub explain_heads : List Head
explain_heads = Head.word (codes "execute") ∷ Head.word (codes "select") ∷ Head.word (codes "insert") ∷ Head.word (codes "update") ∷ Head.word (codes "delete") ∷ []

module _ {n : ℕ} where
  agrees-target : Agrees (Unit {0}) n target_read target 1 target_heads bar_targets
  unfolding is_reserved
  agrees-target = agrees-word (codes "all") (agrees-pure command.DeallocateAll bar_targets) (agrees-map command.Deallocate (agrees-wider bar_targets refl agrees-name)) refl

  pub agrees-deallocate : Agrees (Unit {0}) n spec.deallocate line.deallocate 1 (Head.word (codes "prepare") ∷ target_heads) bar_targets
  unfolding spec.deallocate line.deallocate
  agrees-deallocate = agrees-before "prepare" looks-target agrees-target

  pub agrees-discard : Agrees (Unit {0}) n spec.discard line.discard 1 (Head.word (codes "plans") ∷ Head.word (codes "temp") ∷ Head.word (codes "temporary") ∷ []) nothing
  unfolding spec.discard line.discard
  agrees-discard = agrees-same there back (agrees-word (codes "plans") (agrees-pure command.DiscardPlans nothing)
      (agrees-test (λ found. cond found (pure true) (eat_word (codes "temporary")) >>= either) (omega arith) (tests-word (codes "temp")) temp (agrees-word (codes "temporary") temp (agrees-refuse 1 [] nothing) refl) refl) refl)
    where
      either : Bool → Parser Command
      either found = cond found (pure command.DiscardTemp) refuse

      temp : Agrees (Unit {0}) n (pure command.DiscardTemp) (gives command.DiscardTemp) 0 (Head.others nothing ∷ []) nothing
      temp = agrees-pure command.DiscardTemp nothing

      ordered : Line Command
      ordered = lines.◌or◌ (lines.◌>>◌ (a_word (codes "plans")) (gives command.DiscardPlans)) (lines.◌or◌ (lines.◌>>◌ (a_word (codes "temp")) (gives command.DiscardTemp)) (lines.◌or◌ (lines.◌>>◌ (a_word (codes "temporary")) (gives command.DiscardTemp)) nowhere))

      there : (ts : Tokens) (c : Command) (us : Tokens) → ordered ts c us → line.discard ts c us
      there ts c us (inl plans) = inl plans
      there ts c us (inr (inl (u, middle, e, rest))) = inr (u, middle, inl e, rest)
      there ts c us (inr (inr (inl (u, middle, e, rest)))) = inr (u, middle, inr e, rest)
      there ts c us (inr (inr (inr none))) = absurd none

      back : (ts : Tokens) (c : Command) (us : Tokens) → line.discard ts c us → ordered ts c us
      back ts c us (inl plans) = inl plans
      back ts c us (inr (u, middle, inl e, rest)) = inr (inl (u, middle, e, rest))
      back ts c us (inr (u, middle, inr e, rest)) = inr (inr (inl (u, middle, e, rest)))

  -- ---- EXECUTE

  agrees-arguments : Agrees (Unit {0}) n spec.arguments (any line.arguments) 0 (Head.sign sign.LeftParen ∷ Head.others (bar_sign sign.LeftParen) ∷ []) (bar_sign sign.LeftParen)
  unfolding spec.arguments spec.expressions line.arguments
  agrees-arguments = agrees-sign sign.LeftParen (agrees-bind (agrees-list list_tail agrees-expression refl refl) (λ found.
      agrees-bind (agrees-expect_sign sign.RightParen) (λ u. agrees-pure found (bar_sign sign.LeftParen)) refl) refl) (agrees-pure [] (bar_sign sign.LeftParen)) refl

  pub agrees-execute_tree : Agrees (Unit {0}) n spec.execute_tree line.execute_tree 1 (Head.name ∷ []) (bar_sign sign.LeftParen)
  unfolding spec.execute_tree line.execute_tree
  agrees-execute_tree = agrees-bind agrees-name (λ name. agrees-map (λ found. record { name = name; arguments = found }) agrees-arguments) refl

  pub agrees-execute : Agrees (Unit {0}) n spec.execute (lines.◌<$>◌ command.Execute line.execute_tree) 1 (Head.name ∷ []) (bar_sign sign.LeftParen)
  unfolding spec.execute
  agrees-execute = agrees-map command.Execute agrees-execute_tree

  -- ---- PREPARE and EXPLAIN

  -- ["(" names ")"]
  agrees-types : Agrees (Unit {0}) n optional_names (any line.parenthesized_names) 0 (Head.sign sign.LeftParen ∷ Head.others (bar_sign sign.LeftParen) ∷ []) (bar_sign sign.LeftParen)
  unfolding optional_names line.parenthesized_names
  agrees-types = agrees-sign sign.LeftParen (agrees-wider (bar_sign sign.LeftParen) refl agrees-enclosed_names) (agrees-pure [] (bar_sign sign.LeftParen)) refl

  pub agrees-prepare_tree : Agrees (Unit {0}) n spec.prepare_tree line.prepare_tree 3 (Head.name ∷ []) statement_tail
  unfolding spec.prepare_tree line.prepare_tree
  agrees-prepare_tree = agrees-bind agrees-name (λ name. agrees-bind agrees-types (λ types. agrees-bind (agrees-expect_word (codes "as")) (λ u.
      agrees-map (λ found. record { name = name; types = types; statement = found }) agrees-statement) refl) refl) refl

  pub agrees-prepare : Agrees (Unit {0}) n spec.prepare (lines.◌<$>◌ command.Prepare line.prepare_tree) 3 (Head.name ∷ []) statement_tail
  unfolding spec.prepare
  agrees-prepare = agrees-map command.Prepare agrees-prepare_tree

  pub agrees-explain : Agrees (Unit {0}) n spec.explain line.explain 1 explain_heads statement_tail
  unfolding spec.explain line.explain
  agrees-explain = agrees-same there back (agrees-word (codes "execute") (agrees-map command.ExplainExecute (agrees-wider statement_tail refl agrees-execute_tree)) (agrees-map command.Explain agrees-statement) refl)
    where
      ordered : Line Command
      ordered = lines.◌or◌ (lines.◌>>◌ (a_word (codes "execute")) (lines.◌<$>◌ command.ExplainExecute line.execute_tree)) (lines.◌<$>◌ command.Explain line.statement)

      there : (ts : Tokens) (c : Command) (us : Tokens) → ordered ts c us → line.explain ts c us
      there ts c us (inl executed) = inr executed
      there ts c us (inr stated) = inl stated

      back : (ts : Tokens) (c : Command) (us : Tokens) → line.explain ts c us → ordered ts c us
      back ts c us (inl stated) = inr stated
      back ts c us (inr executed) = inl executed
