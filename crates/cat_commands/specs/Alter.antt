-- What ALTER TABLE changes.
use Rattle.std.specs.Prelude.{◌==◌, ◌&&◌, Bool, true, false, not, Option, None, Some, Ok, Err, List, [], ◌∷◌, ◌++◌, codes, if◌then◌else◌}
use Rattle.std.specs.declared.rc.Rc.{Rc}
use Rattle.std.specs.declared.alloc.Global.{Global}
use Rattle.q_base.specs.declared.code.Code.TheVariants.{ObjectInUse, NotATable, UnknownRelation}
use Rattle.q_base.specs.declared.ids.SchemaId.{SchemaId}
use Rattle.sql_tree.specs.declared.catalog.AlterAction.{AlterAction}
use Rattle.sql_tree.specs.declared.catalog.AlterAction.TheVariants as action
use Rattle.sql_tree.specs.declared.catalog.AlterTree.{AlterTree}
use Rattle.sql_tree.specs.declared.catalog.ObjectKind.TheVariants as kind
use Rattle.sql_tree.specs.declared.expr.Literal.TheVariants as literal
use Rattle.sql_tree.specs.declared.names.QName.{QName}
use Rattle.cat_names.specs.declared.rows.NameRow.{NameRow}
use Rattle.cat_core.specs.declared.entry.Def.{Def}
use Rattle.cat_core.specs.declared.entry.Def.TheVariants as def
use Rattle.cat_core.specs.declared.entry.Entry.{Entry}
use Rattle.cat_core.specs.declared.entry.IndexDef.{IndexDef}
use Rattle.cat_core.specs.declared.entry.TableDef.{TableDef}
use Rattle.cat_core.specs.Steps.{CatalogState, entry_in}
use Rattle.cat_core.specs.Finding.{find_object, indexes_of}
use Rattle.cat_commands.specs.declared.alter.RowWork.TheVariants as rows
use Rattle.cat_commands.specs.Names.{Text, Checked, naming, naming_two, written, go_on}
use Rattle.cat_commands.specs.Places.{free, schema_known}
use Rattle.cat_commands.specs.Steps.{Step, Outcome, put, put_touched, Touches}
use Rattle.cat_commands.specs.Alterations.{Alteration, Altering}
use Rattle.cat_commands.specs.AlterColumns.{column_added, column_dropped, column_renamed, type_set, default_set, not_null_set, not_null_dropped}

-- the work on rows is nothing
abbrev pub only : List Step → Alteration
only made = record { rows = rows.Nothing; made = made }

-- RENAME TO: 42P07
abbrev pub renamed : CatalogState → Entry → TableDef → Text → Altering
renamed catalog entry table new =
    go_on (free catalog.names entry.schema new new) (λ _. Ok (only (put_touched entry.id entry.schema new (def.Table table))))

abbrev pub all_free : List NameRow → SchemaId → List Entry → Checked
all_free names schema [] = Ok tt
all_free names schema (index ∷ indexes) = go_on (free names schema index.name index.name) (λ _. all_free names schema indexes)

abbrev pub moved_one : SchemaId → Entry → IndexDef → Step
moved_one schema entry index = put entry.id schema entry.name (def.Index index)

abbrev pub with_moved : SchemaId → Entry → Def → List Step → List Step
with_moved schema entry (def.Index index) later = moved_one schema entry index ∷ later
with_moved schema entry (def.Table table) later = later
with_moved schema entry (def.View view) later = later

abbrev pub moved_indexes : SchemaId → List Entry → List Step
moved_indexes schema [] = []
moved_indexes schema (index ∷ indexes) = with_moved schema index index.def (moved_indexes schema indexes)

-- the table and its indexes move together, and the table is touched
abbrev pub moved_entries : Entry → TableDef → SchemaId → List Entry → List Step
moved_entries entry table schema indexes = (put entry.id schema entry.name (def.Table table) ∷ moved_indexes schema indexes) ++ Touches entry.id ∷ []

-- in its own schema the table is only touched; in another all names must be free
unfoldable pub moved : CatalogState → Entry → TableDef → SchemaId → Outcome
moved catalog entry table schema =
    if schema.0 == entry.schema.0 then Ok (Touches entry.id ∷ [])
    else go_on (free catalog.names schema entry.name entry.name) (λ _. go_on (all_free catalog.names schema (indexes_of entry.id catalog.slots)) (λ _.
    Ok (moved_entries entry table schema (indexes_of entry.id catalog.slots))))

-- SET SCHEMA: 3F000, 42P07 of the table's or an index's name
abbrev pub schema_set : CatalogState → Entry → TableDef → Text → Altering
schema_set catalog entry table schema =
    go_on (schema_known catalog.schemas schema) (λ id. go_on (moved catalog entry table id) (λ made. Ok (only made)))

abbrev pub action_done : CatalogState → Entry → TableDef → QName → Bool → AlterAction → Altering
action_done catalog entry table shown used (action.AddColumn column) = column_added entry table shown column
action_done catalog entry table shown used (action.DropColumn name) = column_dropped catalog entry table shown name used
action_done catalog entry table shown used (action.RenameColumn name new) = column_renamed entry table shown name new
action_done catalog entry table shown used (action.RenameTo new) = renamed catalog entry table new
action_done catalog entry table shown used (action.SetSchema schema) = schema_set catalog entry table schema
action_done catalog entry table shown used (action.SetType name kind) = type_set entry table shown name kind used
action_done catalog entry table shown used (action.SetDefault name written) = default_set entry table shown name written
action_done catalog entry table shown used (action.DropDefault name) = default_set entry table shown name literal.Null
action_done catalog entry table shown used (action.SetNotNull name) = not_null_set entry table shown name
action_done catalog entry table shown used (action.DropNotNull name) = not_null_dropped catalog entry table shown name

-- the action is also done to a table in use
abbrev pub is_free : AlterAction → Bool
is_free (action.AddColumn column) = false
is_free (action.DropColumn name) = false
is_free (action.RenameColumn name new) = true
is_free (action.RenameTo new) = true
is_free (action.SetSchema schema) = true
is_free (action.SetType name kind) = false
is_free (action.SetDefault name written) = false
is_free (action.DropDefault name) = false
is_free (action.SetNotNull name) = false
is_free (action.DropNotNull name) = false

abbrev pub def_altered : CatalogState → Entry → AlterTree → Bool → Def → Altering
def_altered catalog entry tree used (def.Table table) = action_done catalog entry table tree.table used tree.action
def_altered catalog entry tree used (def.View view) = Err (naming NotATable (written tree.table))
def_altered catalog entry tree used (def.Index index) = Err (naming NotATable (written tree.table))

abbrev pub entry_altered : CatalogState → AlterTree → Bool → Option (Rc Entry Global) → Altering
entry_altered catalog tree used None = Err (naming UnknownRelation (written tree.table))
entry_altered catalog tree used (Some entry) = def_altered catalog entry.value tree used entry.value.def

-- what ALTER TABLE changes, or its first refusal
unfoldable pub altered : CatalogState → List SchemaId → AlterTree → Bool → Bool → Altering
altered catalog path tree in_use used =
    go_on (find_object catalog path tree.table kind.Table) (λ id.
    if in_use && not (is_free tree.action) then Err (naming_two ObjectInUse (codes "ALTER TABLE") (written tree.table))
    else entry_altered catalog tree used (entry_in catalog.slots id))
