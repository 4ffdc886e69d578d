-- What names mean, and which objects are of a kind.
use Rattle.std.specs.Prelude.{◌==◌, Bool, false, Option, Some, None, Result, Ok, Err, List, [], ◌∷◌, map, if◌then◌else◌}
use Rattle.std.specs.Str.{bytes_eq}
use Rattle.std.specs.declared.rc.Rc.{Rc}
use Rattle.std.specs.declared.alloc.Global.{Global}
use denote.Enum.Bare.{sameb}
use Rattle.q_base.specs.declared.code.Code.{Code}
use Rattle.q_base.specs.declared.code.Code.TheVariants.{UnknownRelation, UnknownIndex, NotATable, NotAView, NotAnIndex}
use Rattle.q_base.specs.declared.errors.SqlError.{SqlError}
use Rattle.q_base.specs.declared.ids.ColId.{ColId}
use Rattle.q_base.specs.declared.ids.ObjId.{ObjId}
use Rattle.q_base.specs.declared.ids.SchemaId.{SchemaId}
use Rattle.sql_tree.specs.declared.catalog.ObjectKind.{ObjectKind}
use Rattle.sql_tree.specs.declared.catalog.ObjectKind.TheVariants as kind
use Rattle.sql_tree.specs.contracts.catalog.ObjectKind as object_kind
use Rattle.sql_tree.specs.declared.names.QName.{QName}
use Rattle.cat_names.specs.Paths.{Text}
use Rattle.cat_names.specs.Lookup.{found, naming, written}
use Rattle.cat_core.specs.declared.entry.Column.{Column}
use Rattle.cat_core.specs.declared.entry.Def.{Def}
use Rattle.cat_core.specs.declared.entry.Def.TheVariants as def
use Rattle.cat_core.specs.declared.entry.Entry.{Entry}
use Rattle.cat_core.specs.declared.slots.Slot.{Slot}
use Rattle.cat_core.specs.Steps.{CatalogState, entry_in}

abbrev pub kind_of : Def → ObjectKind
kind_of (def.Table table) = kind.Table
kind_of (def.View view) = kind.View
kind_of (def.Index index) = kind.Index

abbrev pub same_kind : ObjectKind → ObjectKind → Bool
same_kind = sameb object_kind.the_type

abbrev pub absent : ObjectKind → Code
absent kind.Table = UnknownRelation
absent kind.View = UnknownRelation
absent kind.Index = UnknownIndex

abbrev pub other_kind : ObjectKind → Code
other_kind kind.Table = NotATable
other_kind kind.View = NotAView
other_kind kind.Index = NotAnIndex

abbrev pub has_kind : ObjectKind → Option (Rc Entry Global) → Bool
has_kind wanted None = false
has_kind wanted (Some entry) = same_kind (kind_of entry.value.def) wanted

abbrev pub is_of_kind : List Slot → ObjId → ObjectKind → Bool
is_of_kind slots id wanted = has_kind wanted (entry_in slots id)

abbrev pub found_as : Option ObjId → List Slot → QName → ObjectKind → Result ObjId SqlError
found_as (Some id) slots name wanted = if is_of_kind slots id wanted then Ok id else Err (naming (other_kind wanted) (written name))
found_as None slots name wanted = Err (naming (absent wanted) (written name))

-- the object of a kind that a name means; nothing is 42P01, of an index 42704, another kind 42809
abbrev pub find_object : CatalogState → List SchemaId → QName → ObjectKind → Result ObjId SqlError
find_object catalog path name wanted = found_as (found name path catalog.schemas catalog.names) catalog.slots name wanted

-- the first column of a name
abbrev pub column_named : List Column → Text → Option Column
column_named [] name = None
column_named (column ∷ columns) name = if bytes_eq column.name name then Some column else column_named columns name

-- a table's columns
abbrev pub columns_in : Def → List Column
columns_in (def.Table table) = table.columns
columns_in (def.View view) = []
columns_in (def.Index index) = []

abbrev pub id_of : Option Column → Option ColId
id_of None = None
id_of (Some column) = Some column.id

abbrev pub owner_in : ObjId → Def → ObjId
owner_in id (def.Table table) = id
owner_in id (def.View view) = id
owner_in id (def.Index index) = index.table

-- the object whose use bars changes of this one
abbrev pub owner : Entry → ObjId
owner entry = owner_in entry.id entry.def

abbrev pub is_table : Entry → Bool
is_table entry = same_kind (kind_of entry.def) kind.Table

abbrev pub is_view : Entry → Bool
is_view entry = same_kind (kind_of entry.def) kind.View

abbrev pub def_is_of : ObjId → Def → Bool
def_is_of id (def.Table table) = false
def_is_of id (def.View view) = false
def_is_of id (def.Index index) = index.table.0 == id.0

abbrev pub is_index_of : ObjId → Entry → Bool
is_index_of table entry = def_is_of table entry.def

-- what shared entries are
abbrev pub entries : List (Rc Entry Global) → List Entry
entries shared = map (λ (entry : Rc Entry Global). entry.value) shared

abbrev pub with_chosen : (Entry → Bool) → Option (Rc Entry Global) → List Entry → List Entry
with_chosen p None later = later
with_chosen p (Some entry) later = if p entry.value then entry.value ∷ later else later

-- the objects that are there and of which p holds, in order of making
abbrev pub chosen : (Entry → Bool) → List Slot → List Entry
chosen p [] = []
chosen p (slot ∷ slots) = with_chosen p slot.entry (chosen p slots)

abbrev pub tables : List Slot → List Entry
tables slots = chosen is_table slots

abbrev pub views : List Slot → List Entry
views slots = chosen is_view slots

abbrev pub indexes_of : ObjId → List Slot → List Entry
indexes_of table slots = chosen (is_index_of table) slots
