-- COLUMN behind ADD, DROP, RENAME and ALTER: the tokens next behind it say whether it is the keyword.
use Rattle.std.proofs.Common.{◌≡◌, inl, inr, Bool, true, false, cond, ◌&&◌, ◌||◌, ◌∷◌, drop, codes, refl, ap, subst, ◌∙◌}
use Rattle.sql_tokens.specs.declared.token.Token.TheVariants as token
use Rattle.sql_tree.specs.declared.catalog.AlterAction.{AlterAction}
use Rattle.sql_tree.specs.declared.catalog.AlterAction.TheVariants as alteration
use Rattle.sql_expr.specs.Reading.{Tokens, sees_word}
use Rattle.sql_expr.specs.Lines.{Line, name}
use Rattle.sql_expr.specs.Lines as lines
use Rattle.sql_expr.specs.Names.{sees_name}
use Rattle.sql_reader_catalog.specs.Keywords as spec
use Rattle.sql_reader.specs.Grammar as grammar
use Rattle.sql_expr.proofs.Heads.{Barred}
use Rattle.sql_expr.proofs.Agreement.{word-seen, sees-word, two-tokens}
use Rattle.sql_reader.proofs.CommandLines as line
use Rattle.sql_reader.proofs.KeywordAgreement.{Looks, looks-name, name-there, name-sees, behind-name}
use Rattle.sql_reader.proofs.PartAgreement.{part_words}

-- the tokens that could go on with ALTER TABLE
abbrev pub alter_tail : Barred
alter_tail = record part_words { names = true }

-- ---- what comes next

three : (a b c : Bool) → ((a && b) && c) ≡ true → (a ≡ true) × (b ≡ true) × (c ≡ true)
three true true true e = (refl, refl, refl)
three true true false e = cc
three true false c e = cc
three false b c e = cc

all_three : (a b c : Bool) → a ≡ true → b ≡ true → c ≡ true → ((a && b) && c) ≡ true
all_three true true c e f g = g
all_three true false c e f g = cc
all_three false b c e f g = cc

-- two names
pub looks-definition : Looks spec.is_column_before_definition (codes "column") (lines.◌>>◌ name name)
looks-definition = record {
  yes = λ ts e.
      let seen = three (sees_word (codes "column") ts) (sees_name (drop 1 ts)) (sees_name (drop 1 (drop 1 ts))) e in
      let first = name-there (drop 1 ts) seen.1 in
      let second = name-there (drop 1 (drop 1 ts)) seen.2 in
      (word-seen (codes "column") ts seen.0, (second.0, drop 1 (drop 1 (drop 1 ts)), (first.0, drop 1 (drop 1 ts), first.1, second.1)));
  sure = λ us b vs spelt.
      all_three (sees_word (codes "column") (token.Word (codes "column") ∷ us)) (sees_name us) (sees_name (drop 1 us)) (sees-word (codes "column") us) (name-sees us spelt.0 spelt.1 spelt.2)
      (subst (λ ws. sees_name ws ≡ true) (behind-name us spelt.0 spelt.1 spelt.2) (name-sees spelt.1 b vs spelt.3));
}

pub looks-column : Looks spec.is_column_before_name (codes "column") name
looks-column = looks-name (codes "column")

-- what shows that a change of a column comes
change-there : (us : Tokens) → spec.sees_change us ≡ true → (vs : Tokens) × grammar.change_begun us tt vs
unfolding spec.sees_change
change-there us e = by (sees_word (codes "type") us) refl (sees_word (codes "drop") us) refl (sees_word (codes "default") (drop 1 us)) refl e
  where
    by : (typed : Bool) → sees_word (codes "type") us ≡ typed → (dropped : Bool) → sees_word (codes "drop") us ≡ dropped → (default : Bool) → sees_word (codes "default") (drop 1 us) ≡ default
        → cond typed (sees_name (drop 1 us)) (cond dropped (default || sees_word (codes "not") (drop 1 us)) (sees_word (codes "set") us)) ≡ true → (vs : Tokens) × grammar.change_begun us tt vs
    by true q dropped r default k e = let found = name-there (drop 1 us) e in (drop 1 us, inl (tt, drop 1 us, word-seen (codes "type") us q, (refl, (found.0, drop 1 (drop 1 us), found.1))))
    by false q true r true k e = (drop 1 (drop 1 us), inr (inr (tt, drop 1 us, word-seen (codes "drop") us r, inl (word-seen (codes "default") (drop 1 us) k))))
    by false q true r false k e = (drop 1 (drop 1 us), inr (inr (tt, drop 1 us, word-seen (codes "drop") us r, inr (word-seen (codes "not") (drop 1 us) e))))
    by false q false r default k e = (drop 1 us, inr (inl (word-seen (codes "set") us e)))

change-sees : (us : Tokens) (u : Unit {0}) (vs : Tokens) → grammar.change_begun us u vs → spec.sees_change us ≡ true
unfolding spec.sees_change sees_word
change-sees us u vs (inl (x, middle, typed, (same, (n, last, named)))) = ap spec.sees_change typed.tokens ∙ name-sees middle n last named
change-sees us u vs (inr (inl set)) = ap spec.sees_change set.tokens
change-sees us u vs (inr (inr (x, middle, dropped, inl default))) = ap spec.sees_change (two-tokens dropped default)
change-sees us u vs (inr (inr (x, middle, dropped, inr negated))) = ap spec.sees_change (two-tokens dropped negated)

-- a name and a change
pub looks-change : Looks spec.is_column_before_change (codes "column") (lines.◌>>◌ name grammar.change_begun)
looks-change = record {
  yes = λ ts e.
      let seen = three (sees_word (codes "column") ts) (sees_name (drop 1 ts)) (spec.sees_change (drop 1 (drop 1 ts))) e in
      let first = name-there (drop 1 ts) seen.1 in
      let second = change-there (drop 1 (drop 1 ts)) seen.2 in
      (word-seen (codes "column") ts seen.0, (tt, second.0, (first.0, drop 1 (drop 1 ts), first.1, second.1)));
  sure = λ us u vs spelt.
      all_three (sees_word (codes "column") (token.Word (codes "column") ∷ us)) (sees_name us) (spec.sees_change (drop 1 us)) (sees-word (codes "column") us) (name-sees us spelt.0 spelt.1 spelt.2)
      (subst (λ ws. spec.sees_change ws ≡ true) (behind-name us spelt.0 spelt.1 spelt.2) (change-sees spelt.1 u vs spelt.3));
}

-- ---- what stands behind `[COLUMN]`

abbrev pub added : Line AlterAction
added = lines.◌<$>◌ alteration.AddColumn (line.column_def false)

abbrev pub dropped : Line AlterAction
dropped = lines.◌<$>◌ alteration.DropColumn name

abbrev pub renamed_column : Line AlterAction
renamed_column = lines.◌>>=◌ name (λ column. lines.◌<$>◌ (alteration.RenameColumn column) line.renamed)

abbrev pub altered : Line AlterAction
altered = lines.◌>>=◌ name line.change
