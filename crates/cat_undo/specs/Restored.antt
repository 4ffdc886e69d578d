use Rattle.std.specs.Prelude.{ℕ, zero, suc, Bool, true, false, nat_le, nat_lt, List, [], ◌∷◌, ◌++◌, Option, Some, None, is_some, if◌then◌else◌, slice_get}
use Rattle.q_base.specs.declared.ids.ObjId.{ObjId}
use Rattle.q_base.specs.declared.ids.Stamp.{Stamp}
use Rattle.cat_core.specs.declared.slots.Slot.{Slot}
use Rattle.cat_core.specs.declared.stamps.StampRow.{StampRow}
use Rattle.cat_core.specs.declared.catalog.Undo.{Undo}
use Rattle.cat_core.specs.Steps.{entry_in, taken_back}
use Rattle.cat_core.specs.Stamps.{stamped_at}
use Rattle.cat_undo.specs.Marked.{next, touched_all}
use Rattle.cat_undo.specs.declared.now.Now.{Now}

-- the objects once so many steps, the last first, were taken back
abbrev pub undone : ℕ → List Undo → List Slot → List Slot
undone zero steps slots = slots
undone (suc n) [] slots = slots
undone (suc n) (step ∷ steps) slots = undone n steps (taken_back step slots)

-- the state after it has heard of each of these in turn
abbrev pub heard : {T : Type 0} → (T → ObjId → T) → List ObjId → T → T
heard hear [] marks = marks
heard hear (id ∷ ids) marks = heard hear ids (hear marks id)

-- the stamp that an object gets when the catalog is restored, where it gets another: one that is there again
-- or was changed behind the copy has the next, and one that is gone has none
abbrev pub new_stamp : Bool → ℕ → ℕ → Option Stamp → Option (Option Stamp)
new_stamp true copied last (Some stamp) = if nat_le stamp.0 copied then None else Some (Some (record { 0 = next last }))
new_stamp true copied last None = Some (Some (record { 0 = next last }))
new_stamp false copied last (Some stamp) = Some None
new_stamp false copied last None = None

-- the row with that stamp
abbrev pub with_new : Option (Option Stamp) → StampRow → StampRow
with_new None row = row
with_new (Some stamp) row = record { id = row.id; stamp = stamp }

-- the last stamp handed out then
abbrev pub last_with : Option (Option Stamp) → ℕ → ℕ
last_with None last = last
last_with (Some None) last = last
last_with (Some (Some stamp)) last = stamp.0

-- who is told
abbrev pub told_with : Option (Option Stamp) → ObjId → List ObjId
told_with None id = []
told_with (Some stamp) id = id ∷ []

-- the new stamp of a row
abbrev pub row_new : List Slot → ℕ → ℕ → StampRow → Option (Option Stamp)
row_new slots copied last row = new_stamp (is_some (entry_in slots row.id)) copied last row.stamp

-- the first rows, in ascending order of ids, have their stamps
abbrev pub restamped : ℕ → List Slot → ℕ → ℕ → List StampRow → List StampRow
restamped zero slots copied last rows = rows
restamped (suc n) slots copied last [] = []
restamped (suc n) slots copied last (row ∷ rows) =
    with_new (row_new slots copied last row) row ∷ restamped n slots copied (last_with (row_new slots copied last row) last) rows

-- the last stamp handed out to them
abbrev pub last_restamped : ℕ → List Slot → ℕ → ℕ → List StampRow → ℕ
last_restamped zero slots copied last rows = last
last_restamped (suc n) slots copied last [] = last
last_restamped (suc n) slots copied last (row ∷ rows) = last_restamped n slots copied (last_with (row_new slots copied last row) last) rows

-- those that are told of
abbrev pub told_restamped : ℕ → List Slot → ℕ → ℕ → List StampRow → List ObjId
told_restamped zero slots copied last rows = []
told_restamped (suc n) slots copied last [] = []
told_restamped (suc n) slots copied last (row ∷ rows) =
    told_with (row_new slots copied last row) row.id ++ told_restamped n slots copied (last_with (row_new slots copied last row) last) rows

-- the stamp at a place, where it gets another
abbrev pub given_new : ℕ → Option (Option Stamp) → List StampRow → List StampRow
given_new place None rows = rows
given_new place (Some stamp) rows = stamped_at place stamp rows

-- the new stamp of the row at a place
abbrev pub new_at : ℕ → List Slot → ℕ → ℕ → List StampRow → Option (Option Stamp)
new_at place slots copied last rows = of_row (slice_get rows place)
  where
    of_row : Option StampRow → Option (Option Stamp)
    of_row None = None
    of_row (Some row) = row_new slots copied last row

-- who is told of the row at a place
abbrev pub told_at : ℕ → List Slot → ℕ → ℕ → List StampRow → List ObjId
told_at place slots copied last rows = of_row (slice_get rows place)
  where
    of_row : Option StampRow → List ObjId
    of_row None = []
    of_row (Some row) = told_with (row_new slots copied last row) row.id

-- the row at a place has its stamp
abbrev pub settled_at : ℕ → ℕ → Now → Now
settled_at place copied now = record {
  catalog = now.catalog;
  stamps = record {
    rows = given_new place (new_at place now.catalog.slots copied now.last_stamp now.stamps.rows) now.stamps.rows;
    all = now.stamps.all;
    next_id = now.stamps.next_id;
  };
  last_stamp = last_with (new_at place now.catalog.slots copied now.last_stamp now.stamps.rows) now.last_stamp;
}

-- the first rows have their stamps
abbrev pub settled : ℕ → ℕ → Now → Now
settled n copied now = record {
  catalog = now.catalog;
  stamps = record {
    rows = restamped n now.catalog.slots copied now.last_stamp now.stamps.rows;
    all = now.stamps.all;
    next_id = now.stamps.next_id;
  };
  last_stamp = last_restamped n now.catalog.slots copied now.last_stamp now.stamps.rows;
}

-- those that are told of in that
abbrev pub told_settled : ℕ → ℕ → Now → List ObjId
told_settled n copied now = told_restamped n now.catalog.slots copied now.last_stamp now.stamps.rows

-- the catalog as a whole has the next stamp where it was changed behind the copy
abbrev pub all_settled : ℕ → Now → Now
all_settled copied now = if nat_lt copied now.stamps.all.0 then touched_all now else now

-- the state that has heard of it
abbrev pub all_heard : {T : Type 0} → (T → T) → ℕ → Now → T → T
all_heard hear_all copied now marks = if nat_lt copied now.stamps.all.0 then hear_all marks else marks

-- the catalog once so many steps, the last first, were taken back
abbrev pub with_undone : ℕ → List Undo → Now → List Slot
with_undone n steps now = undone n steps now.catalog.slots
