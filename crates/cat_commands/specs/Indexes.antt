-- The indexes of tables.
use Rattle.std.specs.Prelude.{Bool, true, false, Option, None, Some, Ok, Err, length, codes, List, [], ◌∷◌, ◌++◌, if◌then◌else◌}
use Rattle.std.specs.Str.{bytes_eq}
use Rattle.std.specs.declared.rc.Rc.{Rc}
use Rattle.std.specs.declared.alloc.Global.{Global}
use Rattle.q_base.specs.declared.code.Code.TheVariants.{ObjectInUse, UnknownRelation}
use Rattle.q_base.specs.declared.ids.ColId.{ColId}
use Rattle.q_base.specs.declared.ids.ObjId.{ObjId}
use Rattle.q_base.specs.declared.ids.SchemaId.{SchemaId}
use Rattle.sql_tree.specs.declared.catalog.IndexTree.{IndexTree}
use Rattle.sql_tree.specs.declared.catalog.KeyConstraint.{KeyConstraint}
use Rattle.sql_tree.specs.declared.catalog.ObjectKind.TheVariants as kind
use Rattle.cat_core.specs.declared.entry.Column.{Column}
use Rattle.cat_core.specs.declared.entry.Def.TheVariants as def
use Rattle.cat_core.specs.declared.entry.Entry.{Entry}
use Rattle.cat_core.specs.declared.entry.IndexDef.{IndexDef}
use Rattle.cat_core.specs.Steps.{CatalogState, entry_in}
use Rattle.cat_core.specs.Finding.{columns_in, find_object}
use Rattle.cat_commands.specs.Names.{Text, Checked, unrepeated, naming, naming_two, written, go_on}
use Rattle.cat_commands.specs.Keys.{is_primary, known_columns}
use Rattle.cat_commands.specs.Limits.{room_for, within}
use Rattle.cat_commands.specs.Places.{free}
use Rattle.cat_commands.specs.Steps.{Step, Outcome, put, Touches}

abbrev pub column_names : List Column → List Text
column_names [] = []
column_names (column ∷ columns) = column.name ∷ column_names columns

abbrev pub ids_named : Text → List Column → List ColId
ids_named name [] = []
ids_named name (column ∷ columns) = if bytes_eq column.name name then column.id ∷ ids_named name columns else ids_named name columns

-- the ids of the columns of these names
abbrev pub column_ids : List Column → List Text → List ColId
column_ids columns [] = []
column_ids columns (name ∷ names) = ids_named name columns ++ column_ids columns names

abbrev pub key_index : ObjId → List Column → KeyConstraint → IndexDef
key_index table columns key = record { table = table; columns = column_ids columns key.columns; unique = true; of_constraint = true; primary = is_primary key.kind }

-- the indexes of a new table's keys
abbrev pub key_indexes : ObjId → List Column → List KeyConstraint → List IndexDef
key_indexes table columns [] = []
key_indexes table columns (key ∷ keys) = key_index table columns key ∷ key_indexes table columns keys

-- the columns of an index: 42703, 42701, 54000
unfoldable pub listed : List Text → List Column → Checked
listed names columns = go_on (known_columns (column_names columns) names) (λ _. go_on (unrepeated names) (λ _. within 8 (length names)))

abbrev pub index_on : Entry → IndexTree → IndexDef
index_on table tree = record {
  table = table.id;
  columns = column_ids (columns_in table.def) tree.columns;
  unique = tree.unique;
  of_constraint = false;
  primary = false;
}

-- the index is made in its table's schema, and the table is touched
abbrev pub put_index : ObjId → Entry → IndexTree → List Step
put_index id table tree = put id table.schema tree.name (def.Index (index_on table tree)) ∷ Touches table.id ∷ []

unfoldable pub created_on : CatalogState → Entry → IndexTree → Outcome
created_on catalog table tree =
    go_on (free catalog.names table.schema tree.name tree.name) (λ _. go_on (listed tree.columns (columns_in table.def)) (λ _.
    go_on (room_for catalog.next_id 1) (λ id. Ok (put_index (record { 0 = id }) table tree))))

abbrev pub created_by : CatalogState → IndexTree → Option (Rc Entry Global) → Outcome
created_by catalog tree None = Err (naming UnknownRelation (written tree.table))
created_by catalog tree (Some entry) = created_on catalog entry.value tree

-- what CREATE INDEX changes, or its first refusal
unfoldable pub created : CatalogState → List SchemaId → IndexTree → Bool → Outcome
created catalog path tree in_use =
    go_on (find_object catalog path tree.table kind.Table) (λ id.
    if in_use then Err (naming_two ObjectInUse (codes "CREATE INDEX") (written tree.table)) else created_by catalog tree (entry_in catalog.slots id))
