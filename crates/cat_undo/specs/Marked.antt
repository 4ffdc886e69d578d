use Rattle.std.specs.Prelude.{ℕ, ◌+◌, ◌-◌, ◌^◌, ◌&&◌, Bool, min, nat_lt, Some, is_some, if◌then◌else◌}
use Rattle.q_base.specs.declared.ids.ObjId.{ObjId}
use Rattle.cat_core.specs.Stamps.{stamp_in, with_stamp}
use Rattle.cat_core.specs.declared.changes.Change.{Change}
use Rattle.cat_core.specs.declared.changes.Change.TheVariants.{PutEntry, DropEntry, PutSchema, DropSchema, Touch, TouchAll}
use Rattle.cat_undo.specs.declared.now.Now.{Now}

-- the stamp after another
abbrev pub next : ℕ → ℕ
next last = min (last + 1) (2 ^ 64 - 1)

-- an object that is there has the next stamp
abbrev pub touched : ObjId → Now → Now
touched id now =
    if is_some (stamp_in now.stamps.rows id)
    then record { catalog = now.catalog; stamps = record { rows = with_stamp id (Some (record { 0 = next now.last_stamp })) now.stamps.rows; all = now.stamps.all; next_id = now.stamps.next_id }; last_stamp = next now.last_stamp }
    else now

-- the catalog as a whole has the next stamp
abbrev pub touched_all : Now → Now
touched_all now =
    record { catalog = now.catalog; stamps = record { rows = now.stamps.rows; all = record { 0 = next now.last_stamp }; next_id = now.stamps.next_id }; last_stamp = next now.last_stamp }

-- the object is there, and is one of which is told
abbrev pub is_told : ObjId → ℕ → Now → Bool
is_told id told now = is_some (stamp_in now.stamps.rows id) && nat_lt id.0 told

-- the state that has heard of a change, where it was made: of a drop and of a touch, but for objects that these changes
-- made, and of what concerns every object
abbrev pub told_of : {T : Type 0} → Change → Bool → ℕ → Now → (T → ObjId → T) → (T → T) → T → T
told_of (PutEntry entry) made told now hear hear_all marks = marks
told_of (DropEntry id) made told now hear hear_all marks = if made && nat_lt id.0 told then hear marks id else marks
told_of (PutSchema row) made told now hear hear_all marks = marks
told_of (DropSchema id) made told now hear hear_all marks = marks
told_of (Touch id) made told now hear hear_all marks = if is_told id told now then hear marks id else marks
told_of TouchAll made told now hear hear_all marks = hear_all marks
