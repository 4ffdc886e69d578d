-- DROP, TRUNCATE and ANALYZE are read exactly where they are spelt, each behind that word.
use Rattle.std.proofs.Common.{◌≡◌, inl, inr, ℕ, Bool, true, false, List, [], ◌∷◌, Some, None, codes, refl, ap, subst, arith}
use Rattle.std.specs.Prelude.{is_some}
use Rattle.sql_tokens.specs.declared.token.Sign.TheVariants as sign
use Rattle.sql_tree.specs.declared.catalog.ObjectKind.{ObjectKind}
use Rattle.sql_tree.specs.declared.catalog.ObjectKind.TheVariants as object
use Rattle.sql_tree.specs.declared.catalog.SchemaCommand.TheVariants as schema
use Rattle.sql_tree.specs.declared.command.Command.{Command}
use Rattle.sql_tree.specs.declared.command.Command.TheVariants as command
use Rattle.sql_expr.specs.Reading.{Tokens, ◌<$>◌, pure}
use Rattle.sql_expr.specs.Lines.{Line, gives, word as a_word}
use Rattle.sql_expr.specs.Lines as lines
use Rattle.sql_expr.specs.Names.{is_reserved, sees_name}
use Rattle.sql_reader_query.specs.Names.{relation}
use Rattle.sql_reader_catalog.specs.Removal as spec
use Rattle.sql_expr.specs.Grammar.{qualified}
use Rattle.sql_reader.specs.Grammar as grammar
use Rattle.sql_expr.proofs.LineWords.{nowhere}
use Rattle.sql_expr.proofs.Heads.{Barred, Head, clear, begins-clear, clear-begins, not-true}
use Rattle.sql_expr.proofs.Agreement.{Agrees, nothing, bar_sign, tests-word, agrees-pure, agrees-refuse, agrees-bind, agrees-same, agrees-fewer, agrees-test, agrees-word}
use Rattle.sql_expr.proofs.ExpressionAgreement.{agrees-name}
use Rattle.sql_expr.proofs.TokenKinds.{stands-name, bar_names}
use Rattle.sql_reader.proofs.CommandLines as line
use Rattle.sql_reader.proofs.KeywordAgreement.{name-sees, agrees-flag}
use Rattle.sql_reader.proofs.NameAgreement.{agrees-relation}
use Rattle.sql_reader.proofs.OptionalAgreement.{agrees-looking}

-- ---- DROP

-- the tokens that could go on with it
abbrev pub drop_tail : Barred
drop_tail = record { words = codes "cascade" ∷ codes "restrict" ∷ []; signs = sign.Dot ∷ []; names = false; numbers = false; strings = false; params = false }

abbrev kind_line : Line ObjectKind
kind_line = lines.◌or◌ (lines.◌>>◌ (a_word (codes "table")) (gives object.Table)) (lines.◌or◌ (lines.◌>>◌ (a_word (codes "view")) (gives object.View))
    (lines.◌or◌ (lines.◌>>◌ (a_word (codes "index")) (gives object.Index)) nowhere))

kind-there : (ts : Tokens) (k : ObjectKind) (us : Tokens) → kind_line ts k us → grammar.object_kind ts k us
unfolding grammar.object_kind
kind-there ts k us (inl table) = inl table
kind-there ts k us (inr (inl view)) = inr (inl view)
kind-there ts k us (inr (inr (inl index))) = inr (inr index)
kind-there ts k us (inr (inr (inr none))) = absurd none

kind-back : (ts : Tokens) (k : ObjectKind) (us : Tokens) → grammar.object_kind ts k us → kind_line ts k us
unfolding grammar.object_kind
kind-back ts k us (inl table) = inl table
kind-back ts k us (inr (inl view)) = inr (inl view)
kind-back ts k us (inr (inr index)) = inr (inr (inl index))

abbrev cascade_line : Line Bool
cascade_line = lines.◌or◌ (lines.◌>>◌ (a_word (codes "cascade")) (gives true)) (lines.◌or◌ (lines.◌>>◌ (a_word (codes "restrict")) (gives false)) (gives false))

cascade-there : (ts : Tokens) (b : Bool) (us : Tokens) → cascade_line ts b us → grammar.cascaded ts b us
cascade-there ts b us (inl cascade) = inr (inl cascade)
cascade-there ts b us (inr (inl restrict)) = inl restrict
cascade-there ts b us (inr (inr none)) = inr (inr none)

cascade-back : (ts : Tokens) (b : Bool) (us : Tokens) → grammar.cascaded ts b us → cascade_line ts b us
cascade-back ts b us (inl restrict) = inr (inl restrict)
cascade-back ts b us (inr (inl cascade)) = inl cascade
cascade-back ts b us (inr (inr none)) = inr (inr none)

abbrev pub kind_heads : List Head
kind_heads = Head.word (codes "table") ∷ Head.word (codes "view") ∷ Head.word (codes "index") ∷ []

module _ {n : ℕ} where
  agrees-object_kind : Agrees (Unit {0}) n spec.object_kind grammar.object_kind 1 kind_heads nothing
  unfolding spec.object_kind
  agrees-object_kind = agrees-same kind-there kind-back (agrees-fewer 1 (omega arith)
      (agrees-word (codes "table") (agrees-pure object.Table nothing) (agrees-word (codes "view") (agrees-pure object.View nothing)
      (agrees-word (codes "index") (agrees-pure object.Index nothing) (agrees-refuse 1 [] nothing) refl) refl) refl))

  agrees-cascaded : Agrees (Unit {0}) n spec.eat_cascade grammar.cascaded 0 (Head.word (codes "cascade") ∷ Head.word (codes "restrict") ∷ Head.others drop_tail ∷ []) drop_tail
  agrees-cascaded = agrees-same cascade-there cascade-back (agrees-word (codes "cascade") (agrees-pure true drop_tail)
      (agrees-test (λ found. pure false) (omega arith) (tests-word (codes "restrict")) (agrees-pure {n = n} false drop_tail) (agrees-pure false drop_tail) refl) refl)

  pub agrees-drop_object : Agrees (Unit {0}) n spec.drop_object line.drop_object 1 (Head.word (codes "schema") ∷ kind_heads) drop_tail
  unfolding spec.drop_object line.drop_object
  agrees-drop_object = agrees-fewer 1 (omega arith)
      (agrees-word (codes "schema") (agrees-bind agrees-name (λ dropped. agrees-pure (command.Schema (schema.Drop dropped)) drop_tail) refl)
      (agrees-bind agrees-object_kind (λ kind. agrees-bind agrees-relation (λ dropped. agrees-bind agrees-cascaded (λ cascade.
      agrees-pure (command.Drop (record { kind = kind; name = dropped; cascade = cascade })) drop_tail) refl) refl) refl) refl)

-- ---- TRUNCATE

abbrev truncated : Line Command
truncated = lines.◌<$>◌ command.Truncate line.relation

module _ {n : ℕ} where
  agrees-truncated : Agrees (Unit {0}) n (command.Truncate <$> relation) truncated 1 (Head.name ∷ []) (bar_sign sign.Dot)
  agrees-truncated = agrees-bind agrees-relation (λ name. agrees-pure (command.Truncate name) (bar_sign sign.Dot)) refl

  pub agrees-truncate : Agrees (Unit {0}) n spec.truncate line.truncate 1 (Head.word (codes "table") ∷ Head.name ∷ []) (bar_sign sign.Dot)
  unfolding spec.truncate line.truncate is_reserved
  agrees-truncate = agrees-flag {R = λ found. truncated} (agrees-fewer 1 (omega arith)
      (agrees-test (λ found. command.Truncate <$> relation) (omega arith) (tests-word (codes "table")) agrees-truncated agrees-truncated refl))

-- ---- ANALYZE

abbrev pub analyze_tail : Barred
analyze_tail = record bar_names { signs = sign.Dot ∷ [] }

seen : (ts : Tokens) (c : Command) (us : Tokens) → (lines.◌<$>◌ (λ table. command.Analyze (Some table)) line.relation) ts c us → sees_name ts ≡ true
unfolding line.relation qualified sees_name
seen ts c us (table, last, (q, end, inl (first, middle, spelt, dotted), given), rest) = name-sees ts first middle spelt
seen ts c us (table, last, (q, end, inr (first, middle, spelt, alone), given), rest) = name-sees ts first middle spelt

unseen : (ts : Tokens) → clear analyze_tail ts ≡ true → sees_name ts ≡ false
unfolding sees_name
unseen [] c = refl
unseen (t ∷ ts) c = ap is_some (stands-name.none t (not-true _ (begins-clear bar_names (Head.others analyze_tail ∷ []) (t ∷ ts) refl (clear-begins analyze_tail (t ∷ ts) c))))

module _ {n : ℕ} where
  pub agrees-analyze : Agrees (Unit {0}) n spec.analyze line.analyze 0 (Head.name ∷ Head.others analyze_tail ∷ []) analyze_tail
  unfolding spec.analyze line.analyze
  agrees-analyze = agrees-looking seen (λ ts c us spelt free. unseen ts (subst (λ vs. clear analyze_tail vs ≡ true) spelt.1 free))
      (agrees-bind agrees-relation (λ table. agrees-pure (command.Analyze (Some table)) analyze_tail) refl) (agrees-pure (command.Analyze None) analyze_tail)
