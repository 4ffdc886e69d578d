-- Names that are free or taken.
use Rattle.std.specs.Prelude.{Option, None, Some, Result, Ok, Err, List}
use Rattle.q_base.specs.declared.code.Code.TheVariants.{DuplicateRelation, UnknownSchema}
use Rattle.q_base.specs.declared.errors.SqlError.{SqlError}
use Rattle.q_base.specs.declared.ids.ObjId.{ObjId}
use Rattle.q_base.specs.declared.ids.SchemaId.{SchemaId}
use Rattle.cat_names.specs.declared.rows.NameRow.{NameRow}
use Rattle.cat_names.specs.declared.rows.SchemaRow.{SchemaRow}
use Rattle.cat_names.specs.Lookup.{named_in}
use Rattle.cat_names.specs.Paths.{schema_named}
pub use Rattle.cat_commands.specs.Names.{Text, Checked, naming, or_refused, written}

abbrev pub free_if : Option ObjId → Text → Checked
free_if (Some id) shown = Err (naming DuplicateRelation shown)
free_if None shown = Ok tt

-- the schema has no object of the name; else 42P07, with the name as it is shown
abbrev pub free : List NameRow → SchemaId → Text → Text → Checked
free names schema name shown = free_if (named_in names schema name) shown

-- the schema of a name, else 3F000
abbrev pub schema_known : List SchemaRow → Text → Result SchemaId SqlError
schema_known schemas name = or_refused (naming UnknownSchema name) (schema_named schemas name)
