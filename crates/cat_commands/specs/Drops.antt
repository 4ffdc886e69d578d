-- What drops change.
use Rattle.std.specs.Prelude.{◌==◌, ◌&&◌, Bool, not, Option, None, Some, Ok, Err, List, [], ◌∷◌, ◌++◌, length, codes, if◌then◌else◌}
use Rattle.std.specs.declared.rc.Rc.{Rc}
use Rattle.std.specs.declared.alloc.Global.{Global}
use Rattle.q_base.specs.declared.code.Code.TheVariants.{ObjectHasDependents, IndexOfConstraint, ObjectInUse, UnknownRelation}
use Rattle.q_base.specs.declared.ids.ObjId.{ObjId}
use Rattle.sql_tree.specs.declared.catalog.DropTree.{DropTree}
use Rattle.sql_tree.specs.declared.catalog.ObjectKind.{ObjectKind}
use Rattle.sql_tree.specs.declared.catalog.ObjectKind.TheVariants as kind
use Rattle.cat_core.specs.declared.entry.Def.{Def}
use Rattle.cat_core.specs.declared.entry.Def.TheVariants as def
use Rattle.cat_core.specs.declared.entry.Entry.{Entry}
use Rattle.cat_core.specs.declared.entry.IndexDef.{IndexDef}
use Rattle.cat_core.specs.Steps.{CatalogState, entry_in}
use Rattle.cat_core.specs.Finding.{indexes_of, other_kind}
use Rattle.cat_commands.specs.Names.{Text, Checked, naming, naming_two, written, go_on}
use Rattle.cat_commands.specs.Steps.{Step, Outcome, Drops, Touches}

abbrev pub drops : List ObjId → List Step
drops [] = []
drops (id ∷ ids) = Drops id ∷ drops ids

-- the views that reach it go before it
abbrev pub drop_view : ObjId → List ObjId → List Step
drop_view id dependents = drops dependents ++ Drops id ∷ []

abbrev pub drop_index : ObjId → ObjId → List Step
drop_index id table = Drops id ∷ Touches table ∷ []

abbrev pub drops_of : List Entry → List Step
drops_of [] = []
drops_of (entry ∷ entries) = Drops entry.id ∷ drops_of entries

-- the views that reach it go before it, and so do its indexes
abbrev pub drop_table : ObjId → List ObjId → List Entry → List Step
drop_table id dependents indexes = (drops dependents ++ drops_of indexes) ++ Drops id ∷ []

-- CASCADE is written or no view reaches it, else 2BP01
abbrev pub independent : DropTree → Text → List ObjId → Checked
independent tree shown dependents =
    if not tree.cascade && not (length dependents == 0) then Err (naming_two ObjectHasDependents shown (written tree.name)) else Ok tt

-- no open query uses it, else 55006
abbrev pub unused : DropTree → Text → Bool → Checked
unused tree command in_use = if in_use then Err (naming_two ObjectInUse command (written tree.name)) else Ok tt

-- no constraint needs it, else 2BP01
abbrev pub unconstrained : DropTree → IndexDef → Checked
unconstrained tree index = if index.of_constraint then Err (naming IndexOfConstraint (written tree.name)) else Ok tt

abbrev pub table_dropped : CatalogState → ObjId → DropTree → List ObjId → Bool → Outcome
table_dropped catalog id tree dependents in_use =
    go_on (independent tree (codes "table") dependents) (λ _. go_on (unused tree (codes "DROP TABLE") in_use) (λ _.
    Ok (drop_table id dependents (indexes_of id catalog.slots))))

abbrev pub view_dropped : ObjId → DropTree → List ObjId → Outcome
view_dropped id tree dependents = go_on (independent tree (codes "view") dependents) (λ _. Ok (drop_view id dependents))

abbrev pub index_dropped : ObjId → DropTree → IndexDef → Bool → Outcome
index_dropped id tree index in_use =
    go_on (unconstrained tree index) (λ _. go_on (unused tree (codes "DROP INDEX") in_use) (λ _. Ok (drop_index id index.table)))

-- by the kind that is written and what the object is; another kind is 42809
abbrev pub def_dropped : CatalogState → ObjId → DropTree → List ObjId → Bool → ObjectKind → Def → Outcome
def_dropped catalog id tree dependents in_use kind.Table (def.Table table) = table_dropped catalog id tree dependents in_use
def_dropped catalog id tree dependents in_use kind.View (def.View view) = view_dropped id tree dependents
def_dropped catalog id tree dependents in_use kind.Index (def.Index index) = index_dropped id tree index in_use
def_dropped catalog id tree dependents in_use wanted _ = Err (naming (other_kind wanted) (written tree.name))

abbrev pub entry_dropped : CatalogState → ObjId → DropTree → List ObjId → Bool → Option (Rc Entry Global) → Outcome
entry_dropped catalog id tree dependents in_use None = Err (naming UnknownRelation (written tree.name))
entry_dropped catalog id tree dependents in_use (Some entry) = def_dropped catalog id tree dependents in_use tree.kind entry.value.def

-- what DROP TABLE, VIEW and INDEX change, or its first refusal
abbrev pub object_dropped : CatalogState → ObjId → DropTree → List ObjId → Bool → Outcome
object_dropped catalog id tree dependents in_use = entry_dropped catalog id tree dependents in_use (entry_in catalog.slots id)
