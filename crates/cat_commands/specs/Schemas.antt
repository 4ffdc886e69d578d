-- Commands on schemas.
use Rattle.std.specs.Prelude.{◌==◌, ◌&&◌, nat_le, length, take, Bool, true, false, Option, None, Some, Ok, Err, List, [], ◌∷◌, if◌then◌else◌, codes}
use Rattle.std.specs.Str.{bytes_eq}
use Rattle.q_base.specs.declared.code.Code.TheVariants.{UnacceptableSchemaName, DuplicateSchema, ObjectHasDependents}
use Rattle.q_base.specs.declared.ids.SchemaId.{SchemaId}
use Rattle.cat_names.specs.declared.rows.NameRow.{NameRow}
use Rattle.cat_names.specs.declared.rows.SchemaRow.{SchemaRow}
use Rattle.cat_names.specs.Paths.{schema_named}
use Rattle.sql_tree.specs.declared.catalog.SchemaCommand.{SchemaCommand}
use Rattle.sql_tree.specs.declared.catalog.SchemaCommand.TheVariants as command
use Rattle.cat_core.specs.declared.changes.Change.{Change}
use Rattle.cat_core.specs.Steps.{CatalogState}
use Rattle.cat_commands.specs.Limits.{room_for}
use Rattle.cat_commands.specs.Places.{schema_known}
use Rattle.cat_commands.specs.Names.{Text, Checked, naming, naming_two, go_on}
use Rattle.cat_commands.specs.Steps.{Step, step, Outcome, PutsSchema, DropsSchema, TouchesAll}

abbrev pub is_reserved : Text → Bool
is_reserved name = nat_le 3 (length name) && bytes_eq (take 3 name) (codes "pg_")

-- a name that doesn't begin with pg_, else 42939
abbrev pub acceptable : Text → Checked
acceptable name = if is_reserved name then Err (naming UnacceptableSchemaName name) else Ok tt

abbrev pub new_if : Option SchemaId → Text → Checked
new_if (Some id) name = Err (naming DuplicateSchema name)
new_if None name = Ok tt

-- no schema has the name, else 42P06
abbrev pub new_schema : List SchemaRow → Text → Checked
new_schema schemas name = new_if (schema_named schemas name) name

abbrev pub has_object : SchemaId → List NameRow → Bool
has_object schema [] = false
has_object schema (row ∷ rows) = if row.schema.0 == schema.0 then true else has_object schema rows

-- no object is in the schema, else 2BP01
abbrev pub empty : List NameRow → SchemaId → Text → Checked
empty names schema name = if has_object schema names then Err (naming_two ObjectHasDependents (codes "schema") name) else Ok tt

abbrev pub with_touch_all : Change → List Step
with_touch_all change = step change ∷ TouchesAll ∷ []

abbrev pub put_schema : SchemaId → Text → List Step
put_schema id name = PutsSchema (record { id = id; name = name }) ∷ TouchesAll ∷ []

abbrev pub drop_schema : SchemaId → List Step
drop_schema id = DropsSchema id ∷ TouchesAll ∷ []

-- CREATE SCHEMA
unfoldable pub created : CatalogState → Text → Outcome
created catalog name =
    go_on (acceptable name) (λ _. go_on (new_schema catalog.schemas name) (λ _.
    go_on (room_for catalog.next_id 1) (λ id. Ok (put_schema (record { 0 = id }) name))))

-- ALTER SCHEMA RENAME
unfoldable pub renamed : CatalogState → Text → Text → Outcome
renamed catalog name new =
    go_on (schema_known catalog.schemas name) (λ id. go_on (new_schema catalog.schemas new) (λ _.
    go_on (acceptable new) (λ _. Ok (put_schema id new))))

-- DROP SCHEMA
unfoldable pub dropped : CatalogState → Text → Outcome
dropped catalog name = go_on (schema_known catalog.schemas name) (λ id. go_on (empty catalog.names id name) (λ _. Ok (drop_schema id)))

-- what each command on schemas changes, or its first refusal
abbrev pub schema_changes : CatalogState → SchemaCommand → Outcome
schema_changes catalog (command.Create name) = created catalog name
schema_changes catalog (command.Rename name new) = renamed catalog name new
schema_changes catalog (command.Drop name) = dropped catalog name
