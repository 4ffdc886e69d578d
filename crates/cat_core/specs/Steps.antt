use Rattle.std.specs.Prelude.{◌≡◌, ℕ, List, Option, Some, None, MatchOption}
use Rattle.q_base.specs.declared.ids.ObjId.{ObjId}
use Rattle.cat_names.specs.declared.rows.SchemaRow.{SchemaRow}
use Rattle.cat_names.specs.declared.rows.NameRow.{NameRow}
use Rattle.cat_core.specs.declared.slots.Slot.{Slot}
use Rattle.cat_core.specs.declared.catalog.Undo.{Undo}
use Rattle.cat_core.specs.declared.catalog.Undo.TheVariants.{Made, Replaced, Dropped, SchemaMade, SchemaRenamed, SchemaDropped}
pub use Rattle.cat_core.specs.Objects.{entry_in, with_entry}

-- the schemas, the names, one for each object, the objects, and the id that the next object or schema gets
pub record CatalogState : Type 0 where
  pub schemas : List SchemaRow
  pub names : List NameRow
  pub slots : List Slot
  pub next_id : ℕ

-- the objects where a step is taken back
abbrev pub taken_back : Undo → List Slot → List Slot
taken_back (Made id) slots = with_entry id None slots
taken_back (Replaced id was name row) slots = with_entry id (Some was) slots
taken_back (Dropped id was name) slots = with_entry id (Some was) slots
taken_back SchemaMade slots = slots
taken_back (SchemaRenamed place row) slots = slots
taken_back (SchemaDropped place) slots = slots

-- taking the step back gives the objects as they were
abbrev pub Restores : Undo → List Slot → List Slot → Type 0
Restores undo old new = (id : ObjId) → entry_in (taken_back undo new) id ≡ entry_in old id

-- no step was made, or one that can be taken back
abbrev pub StepsBy : Option Undo → List Slot → List Slot → Type 0
StepsBy undo old new = MatchOption undo ((id : ObjId) → entry_in new id ≡ entry_in old id) (λ u. Restores u old new)
