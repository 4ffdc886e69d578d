-- Texts with the commands that they spell, and texts that spell none.
use Rattle.std.specs.Prelude.{Bool, true, false, List, [], ◌∷◌, Some, None, codes, Ok}
use Rattle.q_base.specs.declared.settings.SetValue.TheVariants as value
use Rattle.sql_tokens.specs.declared.token.Token.{Token}
use Rattle.sql_tokens.specs.Spelling.{TextSpells}
use Rattle.sql_tree.specs.declared.catalog.AlterAction.{AlterAction}
use Rattle.sql_tree.specs.declared.catalog.AlterAction.TheVariants as alteration
use Rattle.sql_tree.specs.declared.catalog.Nullability.TheVariants as nullability
use Rattle.sql_tree.specs.declared.command.Command.{Command}
use Rattle.sql_tree.specs.declared.command.Command.TheVariants as command
use Rattle.sql_tree.specs.declared.expr.Comparison.TheVariants as comparison
use Rattle.sql_tree.specs.declared.expr.Expr.{Expr}
use Rattle.sql_tree.specs.declared.expr.Expr.TheVariants as e
use Rattle.sql_tree.specs.declared.expr.Literal.TheVariants as literal
use Rattle.sql_tree.specs.declared.names.QName.{QName}
use Rattle.sql_tree.specs.declared.select.FromChain.{FromChain}
use Rattle.sql_tree.specs.declared.select.FromItem.{FromItem}
use Rattle.sql_tree.specs.declared.select.Join.TheVariants as join
use Rattle.sql_tree.specs.declared.select.OutputItem.{OutputItem}
use Rattle.sql_tree.specs.declared.select.OutputItem.TheVariants as output
use Rattle.sql_tree.specs.declared.statement.Statement.TheVariants as statement
use Rattle.sql_expr.specs.Lines.{Text}
use Rattle.sql_reader.specs.Grammar.{SpellsAll}

-- the text spells tokens, and these the command
abbrev pub Derives : Text → Command → Type 0
Derives text c = (tokens : List Token) × TextSpells text (Ok tokens) × SpellsAll tokens c

-- the text spells tokens, and these no command
abbrev pub DerivesNone : Text → Type 0
DerivesNone text = (tokens : List Token) × TextSpells text (Ok tokens) × ((c : Command) → ¬ SpellsAll tokens c)

-- ---- trees

abbrev pub number : Bool → Text → Expr
number negative digits = e.Literal (literal.Number (record { negative = negative; digits = digits }))

abbrev pub column : Text → Expr
column name = e.Column (record { item = None; name = name })

abbrev pub relation : Text → QName
relation name = record { schema = None; name = name }

abbrev pub item : Text → FromItem
item name = record { relation = relation name; alias = None }

abbrev pub selected : OutputItem → List FromChain → Command
selected given from = command.Statement (statement.Select (record {
  core = record { distinct = false; outputs = given ∷ []; from = from; condition = None };
  grouping = record { keys = []; having = None };
  order = [];
  limits = record { limit = None; offset = None };
}))

abbrev pub computed : Expr → Command
computed x = selected (output.Expr x None) []

abbrev pub altered : Text → AlterAction → Command
altered table action = command.AlterTable (record { table = relation table; action = action })

-- a column of type int, without any part
abbrev pub plain : Text → AlterAction
plain name = alteration.AddColumn (record { name = name; type_name = codes "int"; nullability = nullability.Unsaid; default = None; keys = [] })

-- ---- the examples

pub record Examples : Type 0 where
  pub negative_literal : Derives (codes "SELECT - 5") (computed (number true (codes "5")))
  pub between_with_and : Derives (codes "SELECT a BETWEEN 1 AND 2 AND b")
      (computed (e.And (e.Between (column (codes "a")) (number false (codes "1")) (number false (codes "2")) false ∷ column (codes "b") ∷ [])))
  pub not_of_a_comparison : Derives (codes "SELECT NOT a = b") (computed (e.Not (e.Comparison comparison.Equal (column (codes "a")) (column (codes "b")))))
  pub chain_of_joins : Derives (codes "SELECT * FROM a JOIN b ON c CROSS JOIN d")
      (selected output.All (record { first = item (codes "a"); joins = join.Inner (item (codes "b")) (column (codes "c")) ∷ join.Cross (item (codes "d")) ∷ [] } ∷ []))
  pub column_as_name : Derives (codes "ALTER TABLE t ADD column int") (altered (codes "t") (plain (codes "column")))
  pub column_as_keyword : Derives (codes "ALTER TABLE t ADD column a int") (altered (codes "t") (plain (codes "a")))
  pub savepoint_as_name : Derives (codes "RELEASE savepoint") (command.Release (codes "savepoint"))
  pub local_as_name : Derives (codes "SET local = 1")
      (command.Set (record { name = codes "local"; local = false; value = value.List (record { text = codes "1"; number = true } ∷ []) }))
  pub prepare_as_name : Derives (codes "DEALLOCATE prepare") (command.Deallocate (codes "prepare"))
  pub current_as_column : Derives (codes "DELETE FROM t WHERE current = 1")
      (command.Statement (statement.Delete (record { table = relation (codes "t"); condition = Some (e.Comparison comparison.Equal (column (codes "current")) (number false (codes "1"))); returning = [] })))
  pub two_comparisons : DerivesNone (codes "SELECT 1 = 2 = 3")
  pub not_before_an_operand : DerivesNone (codes "SELECT a NOT 1")
  pub direction_without_name : DerivesNone (codes "FETCH next")
  pub positioned_explained : DerivesNone (codes "EXPLAIN DELETE FROM t WHERE CURRENT OF c")
  pub null_and_not_null : DerivesNone (codes "CREATE TABLE t (a int NULL NOT NULL)")
