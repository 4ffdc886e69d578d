-- ALTER is read exactly where it is spelt, behind that word.
use Rattle.std.proofs.Common.{inl, inr, ℕ, false, List, [], ◌∷◌, Some, None, codes, refl, subst, arith}
use Rattle.sql_tree.specs.declared.catalog.AlterAction.{AlterAction}
use Rattle.sql_tree.specs.declared.catalog.AlterAction.TheVariants as alteration
use Rattle.sql_tree.specs.declared.catalog.SchemaCommand.TheVariants as schema
use Rattle.sql_tree.specs.declared.command.Command.TheVariants as command
use Rattle.sql_expr.specs.Reading.{Text, Tokens}
use Rattle.sql_expr.specs.Lines.{Line, gives, name, word as a_word}
use Rattle.sql_expr.specs.Lines as lines
use Rattle.sql_expr.specs.Names.{is_reserved}
use Rattle.sql_reader_catalog.specs.Alteration as spec
use Rattle.sql_reader.specs.Grammar as grammar
use Rattle.sql_expr.proofs.Heads.{Head}
use Rattle.sql_expr.proofs.Agreement.{Agrees, nothing, agrees-pure, agrees-bind, agrees-same, agrees-fewer, agrees-word, agrees-expect_word}
use Rattle.sql_expr.proofs.ExpressionAgreement.{agrees-name}
use Rattle.sql_reader.proofs.CommandLines as line
use Rattle.sql_reader.proofs.ColumnAgreement.{agrees-column_def}
use Rattle.sql_reader.proofs.ColumnWordAgreement.{alter_tail, added, dropped, renamed_column, altered, looks-definition, looks-column, looks-change}
use Rattle.sql_reader.proofs.KeywordAgreement.{agrees-before}
use Rattle.sql_reader.proofs.ConstantAgreement.{agrees-constant}
use Rattle.sql_reader.proofs.NameAgreement.{agrees-relation}

-- ---- a column's changes, in the order in which they are read

abbrev set_type : Text → Line AlterAction
set_type column = lines.◌<$>◌ (alteration.SetType column) name

abbrev set_default : Text → Line AlterAction
set_default column = lines.◌>>◌ (a_word (codes "default")) (lines.◌<$>◌ (alteration.SetDefault column) line.constant)

abbrev set_line : Text → Line AlterAction
set_line column = lines.◌or◌ (lines.◌>>◌ (a_word (codes "data")) (lines.◌>>◌ (a_word (codes "type")) (set_type column)))
    (lines.◌or◌ (set_default column) (lines.◌>>◌ line.not_null (gives (alteration.SetNotNull column))))

abbrev drop_line : Text → Line AlterAction
drop_line column = lines.◌or◌ (lines.◌>>◌ (a_word (codes "default")) (gives (alteration.DropDefault column))) (lines.◌>>◌ line.not_null (gives (alteration.DropNotNull column)))

abbrev change_line : Text → Line AlterAction
change_line column = lines.◌or◌ (lines.◌>>◌ (a_word (codes "type")) (set_type column)) (lines.◌or◌ (lines.◌>>◌ (a_word (codes "set")) (set_line column)) (lines.◌>>◌ (a_word (codes "drop")) (drop_line column)))

change-there : (column : Text) (ts : Tokens) (a : AlterAction) (us : Tokens) → change_line column ts a us → line.change column ts a us
unfolding line.change
change-there column ts a us (inl rest) = inl (None, ts, inr (refl, refl), rest)
change-there column ts a us (inr (inl (u, middle, set, inl (v, last, data_word, rest)))) = inl (Some v, last, inl (v, last, (u, middle, set, data_word), (refl, refl)), rest)
change-there column ts a us (inr (inl (u, middle, set, inr (inl rest)))) = inr (inl (u, middle, set, rest))
change-there column ts a us (inr (inl (u, middle, set, inr (inr rest)))) = inr (inr (inr (inl (u, middle, set, rest))))
change-there column ts a us (inr (inr (u, middle, drop, inl rest))) = inr (inr (inl (u, middle, drop, rest)))
change-there column ts a us (inr (inr (u, middle, drop, inr rest))) = inr (inr (inr (inr (u, middle, drop, rest))))

change-back : (column : Text) (ts : Tokens) (a : AlterAction) (us : Tokens) → line.change column ts a us → change_line column ts a us
unfolding line.change
change-back column ts a us (inl (found, end_of_set, inl (v, last, (u, middle, set, data_word), (value, end)), rest)) =
    inr (inl (u, middle, set, inl (v, last, data_word, subst (λ vs. (lines.◌>>◌ (a_word (codes "type")) (set_type column)) vs a us) end rest)))
change-back column ts a us (inl (found, end_of_set, inr (value, end), rest)) = inl (subst (λ vs. (lines.◌>>◌ (a_word (codes "type")) (set_type column)) vs a us) end rest)
change-back column ts a us (inr (inl (u, middle, set, rest))) = inr (inl (u, middle, set, inr (inl rest)))
change-back column ts a us (inr (inr (inl (u, middle, drop, rest)))) = inr (inr (u, middle, drop, inl rest))
change-back column ts a us (inr (inr (inr (inl (u, middle, set, rest))))) = inr (inl (u, middle, set, inr (inr rest)))
change-back column ts a us (inr (inr (inr (inr (u, middle, drop, rest))))) = inr (inr (u, middle, drop, inr rest))

-- ---- actions, in the order in which they are read

abbrev before_column : {A : Type 0} → Line A → Line AlterAction → Line AlterAction
before_column F P = lines.◌>>◌ (lines.before "column" F) P

abbrev rename_line : Line AlterAction
rename_line = lines.◌or◌ (lines.◌>>◌ (a_word (codes "to")) (lines.◌<$>◌ alteration.RenameTo name)) (before_column name renamed_column)

abbrev action_line : Line AlterAction
action_line = lines.◌or◌ (lines.◌>>◌ (a_word (codes "add")) (before_column (lines.◌>>◌ name name) added)) (lines.◌or◌ (lines.◌>>◌ (a_word (codes "drop")) (before_column name dropped)) (lines.◌or◌ (lines.◌>>◌ (a_word (codes "rename")) rename_line)
    (lines.◌or◌ (lines.◌>>◌ (a_word (codes "set")) (lines.◌>>◌ (a_word (codes "schema")) (lines.◌<$>◌ alteration.SetSchema name))) (lines.◌>>◌ (a_word (codes "alter")) (before_column (lines.◌>>◌ name grammar.change_begun) altered)))))

action-there : (ts : Tokens) (a : AlterAction) (us : Tokens) → action_line ts a us → line.action ts a us
unfolding line.action
action-there ts a us (inl add) = inl add
action-there ts a us (inr (inl drop)) = inr (inl drop)
action-there ts a us (inr (inr (inl (u, middle, rename, inl (v, last, to, (new, end, named, given)))))) = inr (inr (inr (inl (u, middle, rename, (new, end, (v, last, to, named), given)))))
action-there ts a us (inr (inr (inl (u, middle, rename, inr rest)))) = inr (inr (inl (u, middle, rename, rest)))
action-there ts a us (inr (inr (inr (inl set)))) = inr (inr (inr (inr (inl set))))
action-there ts a us (inr (inr (inr (inr alter)))) = inr (inr (inr (inr (inr alter))))

action-back : (ts : Tokens) (a : AlterAction) (us : Tokens) → line.action ts a us → action_line ts a us
unfolding line.action
action-back ts a us (inl add) = inl add
action-back ts a us (inr (inl drop)) = inr (inl drop)
action-back ts a us (inr (inr (inl (u, middle, rename, rest)))) = inr (inr (inl (u, middle, rename, inr rest)))
action-back ts a us (inr (inr (inr (inl (u, middle, rename, (new, end, (v, last, to, named), given)))))) = inr (inr (inl (u, middle, rename, inl (v, last, to, (new, end, named, given)))))
action-back ts a us (inr (inr (inr (inr (inl set))))) = inr (inr (inr (inl set)))
action-back ts a us (inr (inr (inr (inr (inr alter))))) = inr (inr (inr (inr alter)))

abbrev column_heads : List Head
column_heads = Head.word (codes "column") ∷ Head.name ∷ []

abbrev pub action_heads : List Head
action_heads = Head.word (codes "add") ∷ Head.word (codes "drop") ∷ Head.word (codes "rename") ∷ Head.word (codes "set") ∷ Head.word (codes "alter") ∷ []

module _ {n : ℕ} where
  agrees-renamed : Agrees (Unit {0}) n spec.renamed_to line.renamed 2 (Head.word (codes "to") ∷ []) nothing
  unfolding spec.renamed_to
  agrees-renamed = agrees-bind (agrees-expect_word (codes "to")) (λ u. agrees-name) refl

  agrees-not_null : Agrees (Unit {0}) n spec.not_null line.not_null 2 (Head.word (codes "not") ∷ []) nothing
  unfolding spec.not_null
  agrees-not_null = agrees-bind (agrees-expect_word (codes "not")) (λ u. agrees-expect_word (codes "null")) refl

  agrees-set_type : (column : Text) → Agrees (Unit {0}) n (spec.set_type column) (set_type column) 1 (Head.name ∷ []) alter_tail
  unfolding spec.set_type
  agrees-set_type column = agrees-bind agrees-name (λ type_name. agrees-pure (alteration.SetType column type_name) alter_tail) refl

  agrees-set_part : (column : Text) → Agrees (Unit {0}) n (spec.set_part column) (set_line column) 1 (Head.word (codes "data") ∷ Head.word (codes "default") ∷ Head.word (codes "not") ∷ []) alter_tail
  unfolding spec.set_part
  agrees-set_part column = agrees-fewer 1 (omega arith)
      (agrees-word (codes "data") (agrees-bind (agrees-expect_word (codes "type")) (λ u. agrees-set_type column) refl)
      (agrees-word (codes "default") (agrees-bind agrees-constant (λ value. agrees-pure (alteration.SetDefault column value) alter_tail) refl)
      (agrees-bind agrees-not_null (λ u. agrees-pure (alteration.SetNotNull column) alter_tail) refl) refl) refl)

  agrees-drop_part : (column : Text) → Agrees (Unit {0}) n (spec.drop_part column) (drop_line column) 1 (Head.word (codes "default") ∷ Head.word (codes "not") ∷ []) alter_tail
  unfolding spec.drop_part
  agrees-drop_part column = agrees-fewer 1 (omega arith)
      (agrees-word (codes "default") (agrees-pure (alteration.DropDefault column) alter_tail)
      (agrees-bind agrees-not_null (λ u. agrees-pure (alteration.DropNotNull column) alter_tail) refl) refl)

  agrees-alter_column : Agrees (Unit {0}) n spec.alter_column (before_column (lines.◌>>◌ name grammar.change_begun) altered) 1 column_heads alter_tail
  unfolding spec.alter_column
  agrees-alter_column = agrees-fewer 1 (omega arith) (agrees-before "column" looks-change (agrees-bind agrees-name (λ column. agrees-same (change-there column) (change-back column)
      (agrees-word (codes "type") (agrees-set_type column)
      (agrees-word (codes "set") (agrees-set_part column)
      (agrees-bind (agrees-expect_word (codes "drop")) (λ u. agrees-drop_part column) refl) refl) refl)) refl))

  agrees-rename : Agrees (Unit {0}) n spec.rename rename_line 1 (Head.word (codes "to") ∷ column_heads) alter_tail
  unfolding spec.rename is_reserved
  agrees-rename = agrees-fewer 1 (omega arith)
      (agrees-word (codes "to") (agrees-bind agrees-name (λ new. agrees-pure (alteration.RenameTo new) alter_tail) refl)
      (agrees-before "column" looks-column (agrees-bind agrees-name (λ column. agrees-bind agrees-renamed (λ new. agrees-pure (alteration.RenameColumn column new) alter_tail) refl) refl)) refl)

  pub agrees-action : Agrees (Unit {0}) n spec.table_action line.action 1 action_heads alter_tail
  unfolding spec.table_action
  agrees-action = agrees-same action-there action-back (agrees-fewer 1 (omega arith)
      (agrees-word (codes "add") (agrees-before "column" looks-definition (agrees-bind (agrees-column_def false) (λ def. agrees-pure (alteration.AddColumn def) alter_tail) refl))
      (agrees-word (codes "drop") (agrees-before "column" looks-column (agrees-bind agrees-name (λ column. agrees-pure (alteration.DropColumn column) alter_tail) refl))
      (agrees-word (codes "rename") agrees-rename
      (agrees-word (codes "set") (agrees-bind (agrees-expect_word (codes "schema")) (λ u. agrees-bind agrees-name (λ schema. agrees-pure (alteration.SetSchema schema) alter_tail) refl) refl)
      (agrees-bind (agrees-expect_word (codes "alter")) (λ u. agrees-alter_column) refl) refl) refl) refl) refl))

  agrees-renaming : Agrees (Unit {0}) n spec.renaming line.renaming 1 (Head.name ∷ []) alter_tail
  unfolding spec.renaming line.renaming
  agrees-renaming = agrees-fewer 1 (omega arith) (agrees-bind agrees-name (λ old. agrees-bind (agrees-expect_word (codes "rename")) (λ u.
      agrees-bind agrees-renamed (λ new. agrees-pure (schema.Rename old new) alter_tail) refl) refl) refl)

  pub agrees-alter : Agrees (Unit {0}) n spec.alter line.alter 1 (Head.word (codes "schema") ∷ Head.word (codes "table") ∷ []) alter_tail
  unfolding spec.alter line.alter
  agrees-alter = agrees-fewer 1 (omega arith)
      (agrees-word (codes "schema") (agrees-bind agrees-renaming (λ renamed. agrees-pure (command.Schema renamed) alter_tail) refl)
      (agrees-bind (agrees-expect_word (codes "table")) (λ u. agrees-bind agrees-relation (λ altered. agrees-bind agrees-action (λ done.
      agrees-pure (command.AlterTable (record { table = altered; action = done })) alter_tail) refl) refl) refl) refl)
