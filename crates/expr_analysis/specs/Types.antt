-- Names of types.
use Rattle.std.specs.Prelude.{nat_lt, Option, None, Some, Result, Ok, Err, List, [], ◌∷◌, ◌++◌, length, codes, if◌then◌else◌}
use Rattle.std.specs.Str.{bytes_eq}
use Rattle.q_base.specs.declared.code.Code.TheVariants.{UnknownType, LimitExceeded}
use Rattle.q_base.specs.declared.errors.SqlError.{SqlError}
use Rattle.q_value.specs.declared.value.SqlType.{SqlType}
use Rattle.q_value.specs.declared.value.SqlType.TheVariants as kind
use Rattle.q_value.specs.Conversions.{plain}
use Rattle.expr_analysis.specs.Nodes.{Text, naming, go_on}

abbrev pub NamedType : Type 0
NamedType = Text × SqlType

abbrev pub type_names : List NamedType
type_names =
    (codes "bigint", kind.Int8) ∷ (codes "bool", kind.Bool) ∷ (codes "boolean", kind.Bool) ∷ (codes "int", kind.Int4) ∷
    (codes "int2", kind.Int2) ∷ (codes "int4", kind.Int4) ∷ (codes "int8", kind.Int8) ∷ (codes "integer", kind.Int4) ∷
    (codes "smallint", kind.Int2) ∷ (codes "text", kind.Text) ∷ []

-- the type of the first row of a name
abbrev pub type_in : Text → List NamedType → Option SqlType
type_in name [] = None
type_in name (row ∷ rows) = if bytes_eq row.0 name then Some row.1 else type_in name rows

unfoldable pub type_named : Text → Option SqlType
type_named name = type_in name type_names

abbrev pub with_type : Text → Option SqlType → Result SqlType SqlError
with_type name (Some kind) = Ok kind
with_type name None = Err (naming UnknownType name)

abbrev pub types_from : List SqlType → List Text → Result (List SqlType) SqlError
types_from types [] = Ok types
types_from types (name ∷ names) = go_on (with_type name (type_named name)) (λ kind. types_from (types ++ kind ∷ []) names)

-- the types that PREPARE declares, 64 at most
unfoldable pub declared_types : List Text → Result (List SqlType) SqlError
declared_types names = go_on (types_from [] names) (λ types. if nat_lt 64 (length names) then Err (plain LimitExceeded) else Ok types)
