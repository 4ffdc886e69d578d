-- Definitions of columns: `name type {NOT NULL | NULL | DEFAULT constant | PRIMARY KEY | UNIQUE}`.
use Rattle.std.specs.Prelude.{ℕ, zero, suc, Bool, false, true, is_some, [], ◌∷◌, ◌++◌, length, Option, Some, None, codes, if◌then◌else◌}
use Rattle.std.specs.List.{list_any}
use denote.Enum.Bare.{sameb}
use Rattle.sql_tree.specs.declared.catalog.ColumnDef.{ColumnDef}
use Rattle.sql_tree.specs.declared.catalog.KeyKind.TheVariants as kind
use Rattle.sql_tree.specs.contracts.catalog.KeyKind.{the_type}
use Rattle.sql_tree.specs.declared.catalog.Nullability.{Nullability}
use Rattle.sql_tree.specs.declared.catalog.Nullability.TheVariants as nullability
use Rattle.sql_expr.specs.Reading.{Text, Parser, ◌>>=◌, ◌>>◌, ◌<$>◌, pure, refuse, eat_word, expect_word, goes_on}
use Rattle.sql_expr.specs.Names.{name}
use Rattle.sql_reader_catalog.specs.declared.columns.Part.{Part}
use Rattle.sql_reader_catalog.specs.declared.columns.Part.TheVariants.{Nulls, Default, Key}
use Rattle.sql_reader_catalog.specs.Constants.{constant}

-- a definition without any part
abbrev pub bare : Text → Text → ColumnDef
bare name type_name = record { name = name; type_name = type_name; nullability = nullability.Unsaid; default = None; keys = [] }

-- ---- what no definition has twice

abbrev pub is_said : Nullability → Bool
is_said nullability.Unsaid = false
is_said _ = true

-- the definition says already what the part says; NULL and NOT NULL say the same kind of thing
abbrev pub repeats : Part → ColumnDef → Bool
repeats (Nulls n) def = is_said def.nullability
repeats (Default value) def = is_some def.default
repeats (Key key) def = list_any (λ k. sameb the_type k key) def.keys

abbrev pub with_part : Part → ColumnDef → ColumnDef
with_part (Nulls n) def = record def { nullability = n }
with_part (Default value) def = record def { default = Some value }
with_part (Key key) def = record def { keys = def.keys ++ key ∷ [] }

-- ---- reading

-- `PRIMARY KEY | UNIQUE`, if one of them comes next
unfoldable pub key : Parser (Option Part)
key = do
  primary ← eat_word (codes "primary")
  if primary then expect_word (codes "key") >> pure (Some (Key kind.Primary)) else (do
    unique ← eat_word (codes "unique")
    if unique then pure (Some (Key kind.Unique)) else pure None)

-- a part, if one comes next
unfoldable pub part : Bool → Parser (Option Part)
part keyed = do
  not_null ← eat_word (codes "not")
  if not_null then expect_word (codes "null") >> pure (Some (Nulls nullability.NotNull)) else (do
    null ← eat_word (codes "null")
    if null then pure (Some (Nulls nullability.Null)) else (do
      default ← eat_word (codes "default")
      if default then (λ value. Some (Default value)) <$> constant else (if keyed then key else pure None)))

-- a part that the definition doesn't have already, if one comes next
unfoldable pub next_part : Bool → ColumnDef → Parser (Option Part)
next_part keyed def = do
  found ← part keyed
  goes_on found (λ p. if repeats p def then refuse else pure (Some p)) None

-- The definition with all parts that come next. Each turn reads a token, so the count of tokens is enough.
unfoldable pub parts_from : Bool → ℕ → ColumnDef → Parser ColumnDef
parts_from keyed zero def = pure def
parts_from keyed (suc n) def = do
  found ← next_part keyed def
  goes_on found (λ p. parts_from keyed n (with_part p def)) def

abbrev pub parts : Bool → ColumnDef → Parser ColumnDef
parts keyed def = λ ts. parts_from keyed (length ts) def ts

-- the keys stand in CREATE TABLE alone
unfoldable pub column_def : Bool → Parser ColumnDef
column_def keyed = do
  column ← name
  type_name ← name
  parts keyed (bare column type_name)
