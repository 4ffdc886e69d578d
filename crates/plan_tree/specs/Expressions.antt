-- The text of expressions.
use Rattle.std.specs.Prelude.{ℕ, ◌==◌, Bool, true, false, Option, None, Some, List, [], ◌∷◌, ◌++◌, slice_get, unwrap_or, option_map, codes, if◌then◌else◌}
use Rattle.q_base.specs.declared.ids.ColId.{ColId}
use Rattle.q_value.specs.declared.value.Value.{Value}
use Rattle.q_value.specs.declared.value.Value.TheVariants as value
use Rattle.q_value.specs.Print.{printed}
use Rattle.query_tree.specs.declared.result.ResultColumn.{ResultColumn}
use Rattle.query_tree.specs.declared.query.Relation.{Relation}
use Rattle.query_tree.specs.declared.query.Item.{Item}
use Rattle.query_tree.specs.declared.target.CompareOp.{CompareOp}
use Rattle.query_tree.specs.declared.target.CompareOp.TheVariants as compare
use Rattle.query_tree.specs.declared.target.ArithmeticOp.{ArithmeticOp}
use Rattle.query_tree.specs.declared.target.ArithmeticOp.TheVariants as arithmetic
use Rattle.query_tree.specs.declared.target.ColumnPlace.{ColumnPlace}
use Rattle.query_tree.specs.Items.{relation_of}

-- the name by which a relation's columns are called
abbrev pub called : Relation → List ℕ
called relation = unwrap_or relation.alias relation.name

abbrev pub name_in : Option (Option ResultColumn) → List ℕ
name_in (Some (Some column)) = column.name
name_in other = []

abbrev pub column_name : Relation → ColId → List ℕ
column_name relation column = name_in (slice_get relation.columns column.0)

abbrev pub relation_at : List Item → ℕ → Option Relation
relation_at items item = option_map relation_of (slice_get items item)

abbrev pub column_of : ColId → Option Relation → List ℕ
column_of column None = []
column_of column (Some relation) = called relation ++ codes "." ++ column_name relation column

-- the name of the relation or its alias, a dot, and the name of the column
abbrev pub column_text : List Item → ColumnPlace → List ℕ
column_text items place = column_of place.column (relation_at items place.item)

abbrev pub byte_text : ℕ → List ℕ
byte_text b = if b == 39 then codes "''" else b ∷ []

-- each quote twice
abbrev pub doubled : List ℕ → List ℕ
doubled [] = []
doubled (b ∷ bytes) = byte_text b ++ doubled bytes

abbrev pub constant_text : Value → List ℕ
constant_text value.Null = codes "NULL"
constant_text (value.Bool true) = codes "true"
constant_text (value.Bool false) = codes "false"
constant_text (value.Text text) = codes "'" ++ doubled text ++ codes "'"
constant_text (value.Int2 number) = printed (value.Int2 number)
constant_text (value.Int4 number) = printed (value.Int4 number)
constant_text (value.Int8 number) = printed (value.Int8 number)

abbrev pub arithmetic_sign : ArithmeticOp → List ℕ
arithmetic_sign arithmetic.Add = codes " + "
arithmetic_sign arithmetic.Subtract = codes " - "
arithmetic_sign arithmetic.Multiply = codes " * "
arithmetic_sign arithmetic.Divide = codes " / "

abbrev pub compare_sign : CompareOp → List ℕ
compare_sign compare.Equal = codes " = "
compare_sign compare.NotEqual = codes " <> "
compare_sign compare.Less = codes " < "
compare_sign compare.LessEqual = codes " <= "
compare_sign compare.Greater = codes " > "
compare_sign compare.GreaterEqual = codes " >= "

abbrev pub null_test : Bool → List ℕ
null_test true = codes " IS NOT NULL)"
null_test false = codes " IS NULL)"

-- how a key goes where it isn't ascending with nulls last, or where its nulls aren't where they are by default
abbrev pub key_suffix : Bool → Bool → List ℕ
key_suffix false false = []
key_suffix false true = codes " NULLS FIRST"
key_suffix true true = codes " DESC"
key_suffix true false = codes " DESC NULLS LAST"
