-- What objects reach through views.
use Rattle.std.specs.Prelude.{◌≡◌, ◌≢◌, ◌⊎◌, ◌↔◌, ◌≤◌, length, List, [], ◌++◌, Contains, Option, Some, None}
use Rattle.std.specs.declared.rc.Rc.{Rc}
use Rattle.std.specs.declared.alloc.Global.{Global}
use Rattle.q_base.specs.declared.ids.ObjId.{ObjId}
use Rattle.q_base.specs.IdLists.{HasOneMore, with_id}
use Rattle.query_tree.specs.Items.{ids_of}
use Rattle.cat_core.specs.declared.entry.Def.{Def}
use Rattle.cat_core.specs.declared.entry.Def.TheVariants.{Table, View, Index}
use Rattle.cat_core.specs.declared.entry.Entry.{Entry}
use Rattle.cat_core.specs.declared.slots.Slot.{Slot}
use Rattle.cat_core.specs.Objects.{entry_in}
use Rattle.cat_deps.specs.declared.reached.Reached.{Reached}

-- what an object names: a view the items of its query
abbrev pub def_names : Def → List ObjId
def_names (View view) = ids_of view.query.value
def_names (Table table) = []
def_names (Index index) = []

abbrev pub entry_names : Option (Rc Entry Global) → List ObjId
entry_names None = []
entry_names (Some entry) = def_names entry.value.def

-- what the object of an id names
abbrev pub names_of : List Slot → ObjId → List ObjId
names_of slots id = entry_names (entry_in slots id)

-- ids reach themselves, and what a view that they reach names
pub data Reaches (slots : List Slot) (ids : List ObjId) : ObjId → Type 0 where
  given : {id : ObjId} → Contains ids id → Reaches slots ids id
  through : {view id : ObjId} → Reaches slots ids view → Contains (names_of slots view) id → Reaches slots ids id

-- the list of what was found has the ids in the order of finding, and no others
abbrev pub IsListed : Reached → Type 0
IsListed reached = (id : ObjId) → Contains reached.found id ↔ Contains reached.order.items id

-- these ids were added behind those that were there
pub record Adds (ids : List ObjId) (old new : Reached) : Type 0 where
  pub listed : IsListed new
  pub found : (id : ObjId) → Contains new.found id ↔ (Contains old.found id ⊎ Contains ids id)
  pub more : List ObjId
  pub order : new.order.items ≡ old.order.items ++ more

-- the id, or one of those found, is among the names
abbrev pub Hits : ObjId → List ObjId → List ObjId → Type 0
Hits id found names = Contains names id ⊎ ((other : ObjId) × Contains names other × Contains found other)

-- an id is that of a view other than the object that names the object, or a view that reaches it
pub data Dependent (views : List Entry) (id : ObjId) : ObjId → Type 0 where
  naming : {view : Entry} → Contains views view → view.id ≢ id → Contains (def_names view.def) id → Dependent views id view.id
  beyond : {view : Entry} {other : ObjId} → Contains views view → view.id ≢ id → Dependent views id other → Contains (def_names view.def) other → Dependent views id view.id

-- each id found is a dependent one
abbrev pub AreDependent : List Entry → ObjId → List ObjId → Type 0
AreDependent views id found = (other : ObjId) → Contains found other → Dependent views id other

-- each of these views that names the object or one of those found was found
abbrev pub IsClosed : List Entry → ObjId → List ObjId → Type 0
IsClosed views id found = (view : Entry) → Contains views view → view.id ≢ id → Hits id found (def_names view.def) → Contains found view.id

-- the view's id was added where the view names the object or one of those found, and else none
abbrev pub AddsView : Entry → ObjId → List ObjId → List ObjId → Type 0
AddsView view id old new =
    ((view.id ≢ id) × Hits id old (def_names view.def) × (new ≡ with_id view.id old) × HasOneMore view.id old new)
    ⊎ (((view.id ≢ id) → Hits id old (def_names view.def) → ⊥) × (new ≡ old))

-- dependent ids were added, and all of them where no more were found
pub record Grows (views : List Entry) (id : ObjId) (old new : List ObjId) : Type 0 where
  pub sound : AreDependent views id old → AreDependent views id new
  pub longer : length old ≤ length new
  pub closed : length new ≡ length old → IsClosed views id new
