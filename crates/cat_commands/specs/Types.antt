-- Types of columns.
use Rattle.std.specs.Prelude.{Bool, true, false, Option, None, Some, Result, List, [], ◌∷◌, codes, if◌then◌else◌}
use Rattle.std.specs.Str.{bytes_eq}
use Rattle.q_base.specs.declared.code.Code.TheVariants.{UnknownType}
use Rattle.q_base.specs.declared.errors.SqlError.{SqlError}
use Rattle.q_value.specs.declared.value.SqlType.{SqlType}
use Rattle.q_value.specs.declared.value.SqlType.TheVariants as kind
use Rattle.cat_commands.specs.Names.{Text, naming, or_refused}

abbrev pub NamedType : Type 0
NamedType = Text × SqlType

abbrev pub type_names : List NamedType
type_names =
    (codes "bigint", kind.Int8) ∷ (codes "bool", kind.Bool) ∷ (codes "boolean", kind.Bool) ∷ (codes "int", kind.Int4) ∷
    (codes "int2", kind.Int2) ∷ (codes "int4", kind.Int4) ∷ (codes "int8", kind.Int8) ∷ (codes "integer", kind.Int4) ∷
    (codes "smallint", kind.Int2) ∷ (codes "text", kind.Text) ∷ []

-- the type of the first row of a name
abbrev pub type_in : Text → List NamedType → Option SqlType
type_in name [] = None
type_in name (row ∷ rows) = if bytes_eq row.0 name then Some row.1 else type_in name rows

unfoldable pub type_named : Text → Option SqlType
type_named name = type_in name type_names

-- the type of a name, else 42704
abbrev pub column_type : Text → Result SqlType SqlError
column_type name = or_refused (naming UnknownType name) (type_named name)

-- integers to one another, integers and booleans to text, and every type to itself
abbrev pub is_assignable : SqlType → SqlType → Bool
is_assignable _ kind.Text = true
is_assignable kind.Bool kind.Bool = true
is_assignable kind.Bool _ = false
is_assignable kind.Text _ = false
is_assignable _ kind.Bool = false
is_assignable _ _ = true
