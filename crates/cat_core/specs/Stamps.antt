use Rattle.std.specs.Prelude.{ℕ, zero, suc, ◌+◌, ◌==◌, nat_lt, nat_le, ◌^◌, ◌-◌, ◌&&◌, List, [], ◌∷◌, ◌++◌, Option, Some, None, if◌then◌else◌, slice_get}
use Rattle.q_base.specs.declared.ids.ObjId.{ObjId}
use Rattle.q_base.specs.declared.ids.Stamp.{Stamp}
use Rattle.cat_core.specs.declared.stamps.StampRow.{StampRow}

-- the stamps of the objects, by ascending ids, and that of the catalog as a whole
pub record StampsState : Type 0 where
  pub rows : List StampRow
  pub all : Stamp
  pub next_id : ℕ

-- the stamp of an object
abbrev pub stamp_in : List StampRow → ObjId → Option Stamp
stamp_in [] id = None
stamp_in (row ∷ rows) id = if row.id.0 == id.0 then row.stamp else stamp_in rows id

-- the object has another stamp, where it has a row
abbrev pub with_stamp : ObjId → Option Stamp → List StampRow → List StampRow
with_stamp id stamp [] = []
with_stamp id stamp (row ∷ rows) = if row.id.0 == id.0 then record { id = row.id; stamp = stamp } ∷ rows else row ∷ with_stamp id stamp rows

-- the row at a place has another stamp
abbrev pub stamped_at : ℕ → Option Stamp → List StampRow → List StampRow
stamped_at n stamp [] = []
stamped_at zero stamp (row ∷ rows) = record { id = row.id; stamp = stamp } ∷ rows
stamped_at (suc n) stamp (row ∷ rows) = row ∷ stamped_at n stamp rows

-- an object that is later than all others has its first stamp
abbrev pub with_first : ObjId → Stamp → StampsState → StampsState
with_first id stamp s =
    if nat_le s.next_id id.0 && nat_lt id.0 (2 ^ 32 - 1)
    then record { rows = s.rows ++ record { id = id; stamp = Some stamp } ∷ []; all = s.all; next_id = id.0 + 1 }
    else s

-- the stamp of the row at a place
abbrev pub stamp_of_row : List StampRow → Option ℕ → Option Stamp
stamp_of_row rows None = None
stamp_of_row rows (Some place) = row_stamp (slice_get rows place)
  where
    row_stamp : Option StampRow → Option Stamp
    row_stamp None = None
    row_stamp (Some row) = row.stamp
