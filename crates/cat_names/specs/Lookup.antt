-- What a name means.
use Rattle.std.specs.Prelude.{◌==◌, ◌&&◌, ◌++◌, Option, None, Some, Result, Ok, Err, List, [], ◌∷◌, if◌then◌else◌, codes}
use Rattle.std.specs.Str.{bytes_eq}
use Rattle.q_base.specs.declared.code.Code.{Code}
use Rattle.q_base.specs.declared.code.Code.TheVariants.{UnknownRelation, UnknownSchema, NoSchemaSelected}
use Rattle.q_base.specs.declared.errors.SqlError.{SqlError}
use Rattle.q_base.specs.declared.ids.ObjId.{ObjId}
use Rattle.q_base.specs.declared.ids.SchemaId.{SchemaId}
use Rattle.sql_tree.specs.declared.names.QName.{QName}
use Rattle.cat_names.specs.declared.rows.NameRow.{NameRow}
use Rattle.cat_names.specs.declared.rows.SchemaRow.{SchemaRow}
use Rattle.cat_names.specs.Paths.{Text, schema_named}

-- the object of a name in a schema
abbrev pub named_in : List NameRow → SchemaId → Text → Option ObjId
named_in [] schema name = None
named_in (row ∷ rows) schema name = if (row.schema.0 == schema.0) && bytes_eq row.name name then Some row.id else named_in rows schema name

abbrev pub or_else : {A : Type 0} → Option A → Option A → Option A
or_else (Some first) otherwise = Some first
or_else None otherwise = otherwise

-- the object of a name in the first schema that has it
abbrev pub first_found : Text → List SchemaId → List NameRow → Option ObjId
first_found name [] names = None
first_found name (schema ∷ path) names = or_else (named_in names schema name) (first_found name path names)

abbrev pub in_schema : Option SchemaId → Text → List NameRow → Option ObjId
in_schema None name names = None
in_schema (Some schema) name names = named_in names schema name

abbrev pub found_from : Option Text → Text → List SchemaId → List SchemaRow → List NameRow → Option ObjId
found_from (Some schema) name path schemas names = in_schema (schema_named schemas schema) name names
found_from None name path schemas names = first_found name path names

-- the object that a name means: in the schema that it names, else in the first of the path that has it
unfoldable pub found : QName → List SchemaId → List SchemaRow → List NameRow → Option ObjId
found name path schemas names = found_from name.schema name.name path schemas names

abbrev pub joined : Text → Text → Text
joined schema name = (schema ++ codes ".") ++ name

abbrev pub written_from : Option Text → Text → Text
written_from (Some schema) name = joined schema name
written_from None name = name

-- a name as it was written
abbrev pub written : QName → Text
written name = written_from name.schema name.name

-- an error that names one thing
abbrev pub naming : Code → Text → SqlError
naming code name = record { code = code; args = name ∷ [] }

abbrev pub or_refused : {A : Type 0} → SqlError → Option A → Result A SqlError
or_refused error (Some found) = Ok found
or_refused error None = Err error

-- the object that a name means, else 42P01
unfoldable pub look_up : QName → List SchemaId → List SchemaRow → List NameRow → Result ObjId SqlError
look_up name path schemas names = or_refused (naming UnknownRelation (written name)) (found name path schemas names)

abbrev pub first_schema : List SchemaId → Result SchemaId SqlError
first_schema [] = Err (record { code = NoSchemaSelected; args = [] })
first_schema (schema ∷ path) = Ok schema

abbrev pub place_from : Option Text → List SchemaId → List SchemaRow → Result SchemaId SqlError
place_from (Some schema) path schemas = or_refused (naming UnknownSchema schema) (schema_named schemas schema)
place_from None path schemas = first_schema path

-- the schema in which an object of a name is made, else 3F000
unfoldable pub place_for : QName → List SchemaId → List SchemaRow → Result SchemaId SqlError
place_for name path schemas = place_from name.schema path schemas
