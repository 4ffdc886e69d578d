-- The keys of a new table.
use Rattle.std.specs.Prelude.{Bool, true, false, ◌&&◌, not, Result, Ok, Err, List, [], ◌∷◌, ◌++◌, length, if◌then◌else◌}
use Rattle.std.specs.Str.{bytes_eq}
use Rattle.q_base.specs.declared.code.Code.TheVariants.{TwoPrimaryKeys, UnknownColumn}
use Rattle.q_base.specs.declared.errors.SqlError.{SqlError}
use Rattle.sql_tree.specs.declared.names.QName.{QName}
use Rattle.sql_tree.specs.declared.catalog.KeyKind.{KeyKind}
use Rattle.sql_tree.specs.declared.catalog.KeyKind.TheVariants as kind
use Rattle.sql_tree.specs.declared.catalog.KeyConstraint.{KeyConstraint}
use Rattle.sql_tree.specs.declared.catalog.TableElement.{TableElement}
use Rattle.sql_tree.specs.declared.catalog.TableElement.TheVariants as element
use Rattle.cat_commands.specs.Names.{Text, Checked, is_named, unrepeated, naming, written, go_on}
use Rattle.cat_commands.specs.Limits.{within}

abbrev pub is_primary : KeyKind → Bool
is_primary kind.Primary = true
is_primary kind.Unique = false

abbrev pub has_primary : List KeyKind → Bool
has_primary [] = false
has_primary (k ∷ kinds) = if is_primary k then true else has_primary kinds

abbrev pub makes_primary : Text → TableElement → Bool
makes_primary name (element.Column column) = bytes_eq column.name name && has_primary column.keys
makes_primary name (element.Key key) = is_primary key.kind && is_named name key.columns

-- a primary key names the column
abbrev pub is_in_primary : Text → List TableElement → Bool
is_in_primary name [] = false
is_in_primary name (one ∷ elements) = if makes_primary name one then true else is_in_primary name elements

abbrev pub key_of_one : KeyKind → Text → KeyConstraint
key_of_one kind name = record { kind = kind; columns = name ∷ [] }

abbrev pub key_on : KeyKind → List Text → List KeyConstraint
key_on kind columns = record { kind = kind; columns = columns } ∷ []

abbrev pub column_keys : Text → List KeyKind → List KeyConstraint
column_keys name [] = []
column_keys name (kind ∷ kinds) = key_of_one kind name ∷ column_keys name kinds

abbrev pub keys_in : TableElement → List KeyConstraint
keys_in (element.Column column) = column_keys column.name column.keys
keys_in (element.Key key) = key_on key.kind key.columns

-- the keys of a table, in the order as written
abbrev pub keys_of : List TableElement → List KeyConstraint
keys_of [] = []
keys_of (one ∷ elements) = keys_in one ++ keys_of elements

abbrev pub has_two_primary : Bool → List KeyConstraint → Bool
has_two_primary found [] = false
has_two_primary found (key ∷ keys) = if is_primary key.kind then (if found then true else has_two_primary true keys) else has_two_primary found keys

abbrev pub one_primary : QName → List KeyConstraint → Checked
one_primary table keys = if has_two_primary false keys then Err (naming TwoPrimaryKeys (written table)) else Ok tt

abbrev pub known_columns : List Text → List Text → Checked
known_columns columns [] = Ok tt
known_columns columns (name ∷ names) = if not (is_named name columns) then Err (naming UnknownColumn name) else known_columns columns names

abbrev pub known : List Text → List KeyConstraint → Checked
known columns [] = Ok tt
known columns (key ∷ keys) = go_on (known_columns columns key.columns) (λ _. known columns keys)

abbrev pub once : List KeyConstraint → Checked
once [] = Ok tt
once (key ∷ keys) = go_on (unrepeated key.columns) (λ _. once keys)

abbrev pub short : List KeyConstraint → Checked
short [] = Ok tt
short (key ∷ keys) = go_on (within 8 (length key.columns)) (λ _. short keys)

-- each cause is sought in all keys before the next
unfoldable pub check_keys : QName → List KeyConstraint → List Text → Checked
check_keys table keys columns = go_on (one_primary table keys) (λ _. go_on (known columns keys) (λ _. go_on (once keys) (λ _. short keys)))

unfoldable pub checked_keys : QName → List TableElement → List Text → Result (List KeyConstraint) SqlError
checked_keys table elements columns = go_on (check_keys table (keys_of elements) columns) (λ _. Ok (keys_of elements))
