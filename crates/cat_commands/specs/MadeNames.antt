-- The names of the indexes that keys make.
use Rattle.std.specs.Prelude.{ℕ, zero, suc, ◌+◌, nat_lt, Bool, ◌||◌, Result, Ok, Err, List, [], ◌∷◌, ◌++◌, length, if◌then◌else◌, codes}
use Rattle.std.specs.Option.{is_some}
use Rattle.std.specs.Fmt.{decimal}
use Rattle.q_base.specs.declared.code.Code.TheVariants.{LimitExceeded, IdentifierTooLong}
use Rattle.q_base.specs.declared.errors.SqlError.{SqlError}
use Rattle.q_base.specs.declared.ids.SchemaId.{SchemaId}
use Rattle.sql_tree.specs.declared.catalog.KeyConstraint.{KeyConstraint}
use Rattle.sql_tree.specs.declared.catalog.KeyKind.{KeyKind}
use Rattle.sql_tree.specs.declared.catalog.KeyKind.TheVariants as kind
use Rattle.cat_names.specs.declared.rows.NameRow.{NameRow}
use Rattle.cat_names.specs.Lookup.{named_in}
use Rattle.cat_commands.specs.Names.{Text, Checked, is_named, naming, go_on, plain}

abbrev pub primary_name : Text → Text
primary_name table = table ++ codes "_pkey"

abbrev pub with_columns : Text → List Text → Text
with_columns text [] = text
with_columns text (column ∷ columns) = with_columns ((text ++ codes "_") ++ column) columns

abbrev pub unique_name : Text → List Text → Text
unique_name table columns = with_columns table columns ++ codes "_key"

abbrev pub base_from : KeyKind → Text → List Text → Text
base_from kind.Primary table columns = primary_name table
base_from kind.Unique table columns = unique_name table columns

-- the name that a key makes
abbrev pub base_name : Text → KeyConstraint → Text
base_name table key = base_from key.kind table key.columns

abbrev pub is_taken : List NameRow → SchemaId → List Text → Text → Bool
is_taken names schema made name = is_some (named_in names schema name) || is_named name made

-- the first free one of base1, base2, .. behind number, in so many turns
abbrev pub numbered_name : List NameRow → SchemaId → List Text → Text → ℕ → ℕ → Result Text SqlError
numbered_name names schema made base zero number = Err (plain LimitExceeded)
numbered_name names schema made base (suc turns) number = if is_taken names schema made (base ++ decimal (number + 1)) then numbered_name names schema made base turns (number + 1) else Ok (base ++ decimal (number + 1))

abbrev pub free_name : List NameRow → SchemaId → List Text → Text → Result Text SqlError
free_name names schema made base = if is_taken names schema made base then numbered_name names schema made base 65536 0 else Ok base

abbrev pub made_from : List NameRow → SchemaId → Text → List Text → List KeyConstraint → Result (List Text) SqlError
made_from names schema table made [] = Ok made
made_from names schema table made (key ∷ keys) = go_on (free_name names schema made (base_name table key)) (λ name. made_from names schema table (made ++ name ∷ []) keys)

abbrev pub short_names : List Text → Checked
short_names [] = Ok tt
short_names (name ∷ names) = if nat_lt 63 (length name) then Err (naming IdentifierTooLong name) else short_names names

-- the names of the indexes of a table's keys, in order
unfoldable pub checked_made : List NameRow → SchemaId → Text → List KeyConstraint → Result (List Text) SqlError
checked_made names schema table keys = go_on (made_from names schema table [] keys) (λ made. go_on (short_names made) (λ _. Ok made))
