-- Backslash lines are read exactly where they are spelt.
use Rattle.std.proofs.Common.{◌≡◌, ◌⊎◌, inl, inr, ⊎_elim, ℕ, ◌+◌, ◌≤◌, Bool, true, false, cond, ◌∷◌, length, Some, codes, refl, ap, subst, ◌∙◌}
use Rattle.std.specs.Str.{bytes_eq}
use Rattle.std.proofs.lemmas.Slice.Eq.{bytes_eq-Decides}
use Rattle.sql_tokens.specs.declared.token.Token.TheVariants as token
use Rattle.sql_tree.specs.declared.command.Command.{Command}
use Rattle.sql_tree.specs.declared.command.Command.TheVariants as command
use Rattle.sql_expr.specs.Reading.{Text, Tokens, Parser, ◌<$>◌, pure}
use Rattle.sql_expr.specs.Lines.{Line, gives, TakesToken}
use Rattle.sql_expr.specs.Lines as lines
use Rattle.sql_expr.specs.Names as names
use Rattle.sql_reader_session.specs.Prepared as prepared
use Rattle.sql_reader_session.specs.Lines as spec
use Rattle.sql_expr.proofs.Heads.{clear}
use Rattle.sql_expr.proofs.Agreement.{Agrees, agrees-pure, agrees-bind, agrees-wider}
use Rattle.sql_expr.proofs.ExpressionAgreement.{agrees-name}
use Rattle.sql_reader.proofs.CommandLines as line
use Rattle.sql_reader.proofs.KeywordAgreement.{agrees-map, anything, begins-anything, agrees-anything}
use Rattle.sql_reader.proofs.MotionAgreement.{agrees-count}
use Rattle.sql_reader.proofs.StatementAgreement.{statement_tail}
use Rattle.sql_reader.proofs.PreparedAgreement.{agrees-execute_tree, agrees-prepare_tree}

abbrev backslash_of : Text → Line (Unit {0})
backslash_of letters ts u us = TakesToken (token.Backslash letters) ts us

-- the line behind the backslash and its letters
abbrev pub behind_letters : Text → Line Command
behind_letters letters ts a us = line.backslash_line (token.Backslash letters ∷ ts) a us

-- the letters are these, and what stands behind them is read; or the other is
pick : (letters w : Text) (p q : Parser Command) (ts : Tokens) (a : Command) (us : Tokens) → cond (bytes_eq letters w) p q ts ≡ Some (a, us) → ((letters ≡ w) × (p ts ≡ Some (a, us))) ⊎ (q ts ≡ Some (a, us))
pick letters w p q ts a us e = by (bytes_eq letters w) refl e
  where
    by : (b : Bool) → bytes_eq letters w ≡ b → cond b p q ts ≡ Some (a, us) → ((letters ≡ w) × (p ts ≡ Some (a, us))) ⊎ (q ts ≡ Some (a, us))
    by true seen e = inl ((bytes_eq-Decides letters w).0 seen, e)
    by false seen e = inr e

module _ (n : ℕ) where
  -- behind the letters
  abbrev Behind : Parser Command → Line Command → Type 0
  Behind p P = Agrees (Unit {0}) n p P 0 anything statement_tail

  alone : (c : Command) → Behind (pure c) (gives c)
  alone c = agrees-anything (agrees-pure c statement_tail)

  parse : Behind (command.Parse <$> prepared.prepare_tree) (lines.◌<$>◌ command.Parse line.prepare_tree)
  parse = agrees-anything (agrees-map command.Parse agrees-prepare_tree)

  bind : Behind (command.Bind <$> spec.bind_tree) (lines.◌<$>◌ command.Bind line.bind_tree)
  unfolding spec.bind_tree line.bind_tree
  bind = agrees-anything (agrees-map command.Bind (agrees-bind agrees-name (λ portal. agrees-map (λ found. record { portal = portal; execute = found }) (agrees-wider statement_tail refl agrees-execute_tree)) refl))

  run : Behind (command.Run <$> spec.run_tree) (lines.◌<$>◌ command.Run line.run_tree)
  unfolding spec.run_tree line.run_tree
  run = agrees-anything (agrees-map command.Run (agrees-bind agrees-name (λ portal. agrees-map (λ rows. record { portal = portal; count = rows }) (agrees-wider statement_tail refl agrees-count)) refl))

  end : Behind (command.EndPortal <$> names.name) (lines.◌<$>◌ command.EndPortal lines.name)
  end = agrees-anything (agrees-map command.EndPortal (agrees-wider statement_tail refl agrees-name))

  module _ (letters : Text) where
    line-sound : (ts : Tokens) (a : Command) (us : Tokens) → spec.backslash_line letters ts ≡ Some (a, us) → behind_letters letters ts a us
    unfolding spec.backslash_line line.backslash_line
    line-sound ts a us read =
        ⊎_elim (λ x. inl (at (codes "prepared") (alone command.ShowPrepared) x)) (λ e.
        ⊎_elim (λ x. inr (inl (at (codes "cursors") (alone command.ShowCursors) x))) (λ e.
        ⊎_elim (λ x. inr (inr (inr (inl (at (codes "parse") parse x))))) (λ e.
        ⊎_elim (λ x. inr (inr (inr (inr (inl (at (codes "bind") bind x)))))) (λ e.
        ⊎_elim (λ x. inr (inr (inr (inr (inr (inl (at (codes "run") run x))))))) (λ e.
        ⊎_elim (λ x. inr (inr (inr (inr (inr (inr (at (codes "end") end x))))))) (λ e.
        ⊎_elim (λ x. inr (inr (inl (at (codes "sync") (alone command.Sync) x)))) (λ e. cc)
        (pick letters (codes "sync") _ _ ts a us e)) (pick letters (codes "end") _ _ ts a us e)) (pick letters (codes "run") _ _ ts a us e)) (pick letters (codes "bind") _ _ ts a us e))
        (pick letters (codes "parse") _ _ ts a us e)) (pick letters (codes "cursors") _ _ ts a us e)) (pick letters (codes "prepared") _ _ ts a us read)
      where
        at : {p : Parser Command} {P : Line Command} (w : Text) → Behind p P → (letters ≡ w) × (p ts ≡ Some (a, us)) → lines.◌>>◌ (backslash_of w) P (token.Backslash letters ∷ ts) a us
        at w agrees x = (tt, ts, record { tokens = ap (λ l. token.Backslash l ∷ ts) x.0 }, agrees.sound tt ts a us x.1)

    -- what stands behind the letters that are spelt
    rest-of : (P : Line Command) (w : Text) (ts : Tokens) (a : Command) (us : Tokens) → lines.◌>>◌ (backslash_of w) P (token.Backslash letters ∷ ts) a us → (letters ≡ w) × P ts a us
    rest-of P w ts a us (u, middle, e, rest) =
        let here = e.tokens in
        let same : letters ≡ w = cc in
        let moved : middle ≡ ts = cc in
        (same, subst (λ vs. P vs a us) moved rest)

    line-complete : (ts : Tokens) (a : Command) (us : Tokens) → length ts ≤ n → behind_letters letters ts a us → clear statement_tail us ≡ true → spec.backslash_line letters ts ≡ Some (a, us)
    unfolding spec.backslash_line line.backslash_line
    line-complete ts a us within spelt c = by spelt
      where
        at : {p : Parser Command} {P : Line Command} (w : Text) → spec.backslash_line w ≡ p → Behind p P → lines.◌>>◌ (backslash_of w) P (token.Backslash letters ∷ ts) a us → spec.backslash_line letters ts ≡ Some (a, us)
        at {P = P} w same agrees here =
            let rest = rest-of P w ts a us here in
            ap (λ l. spec.backslash_line l ts) rest.0 ∙ (ap (λ p. p ts) same ∙ agrees.complete ts a us within rest.1 c)

        by : behind_letters letters ts a us → spec.backslash_line letters ts ≡ Some (a, us)
        by (inl here) = at (codes "prepared") refl (alone command.ShowPrepared) here
        by (inr (inl here)) = at (codes "cursors") refl (alone command.ShowCursors) here
        by (inr (inr (inl here))) = at (codes "sync") refl (alone command.Sync) here
        by (inr (inr (inr (inl here)))) = at (codes "parse") refl parse here
        by (inr (inr (inr (inr (inl here))))) = at (codes "bind") refl bind here
        by (inr (inr (inr (inr (inr (inl here)))))) = at (codes "run") refl run here
        by (inr (inr (inr (inr (inr (inr here)))))) = at (codes "end") refl end here

    line-takes : (ts : Tokens) (a : Command) (us : Tokens) → behind_letters letters ts a us → 0 + length us ≤ length ts
    unfolding line.backslash_line
    line-takes ts a us spelt = by spelt
      where
        at : {p : Parser Command} {P : Line Command} (w : Text) → Behind p P → lines.◌>>◌ (backslash_of w) P (token.Backslash letters ∷ ts) a us → 0 + length us ≤ length ts
        at {P = P} w agrees here = agrees.takes ts a us (rest-of P w ts a us here).1

        by : behind_letters letters ts a us → 0 + length us ≤ length ts
        by (inl here) = at (codes "prepared") (alone command.ShowPrepared) here
        by (inr (inl here)) = at (codes "cursors") (alone command.ShowCursors) here
        by (inr (inr (inl here))) = at (codes "sync") (alone command.Sync) here
        by (inr (inr (inr (inl here)))) = at (codes "parse") parse here
        by (inr (inr (inr (inr (inl here))))) = at (codes "bind") bind here
        by (inr (inr (inr (inr (inr (inl here)))))) = at (codes "run") run here
        by (inr (inr (inr (inr (inr (inr here)))))) = at (codes "end") end here

pub agrees-backslash_line : {n : ℕ} (letters : Text) → Agrees (Unit {0}) n (spec.backslash_line letters) (behind_letters letters) 0 anything statement_tail
agrees-backslash_line {n = n} letters = record {
  sound = λ s. line-sound n letters;
  complete = line-complete n letters;
  starts = λ ts a us spelt c. begins-anything ts;
  takes = line-takes n letters;
}
