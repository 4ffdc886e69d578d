use Rattle.std.specs.Prelude.{◌≡◌, ◌<◌, ◌==◌, nat_lt, List, [], ◌∷◌, if◌then◌else◌, Contains, ◌⊎◌, ◌↔◌}
use Rattle.q_base.specs.declared.ids.ObjId.{ObjId}

-- each id is below the next
abbrev pub IsAscending : List ObjId → Type 0
IsAscending [] = Unit {0}
IsAscending (id ∷ []) = Unit {0}
IsAscending (id ∷ next ∷ ids) = (id.0 < next.0) × IsAscending (next ∷ ids)

-- the ids with one more at its place, or as they are where it is there
abbrev pub with_id : ObjId → List ObjId → List ObjId
with_id new [] = new ∷ []
with_id new (id ∷ ids) = if nat_lt id.0 new.0 then id ∷ with_id new ids else (if id.0 == new.0 then id ∷ ids else new ∷ id ∷ ids)

-- new has the ids of old and this one
abbrev pub HasOneMore : ObjId → List ObjId → List ObjId → Type 0
HasOneMore id old new = (other : ObjId) → Contains new other ↔ ((other ≡ id) ⊎ Contains old other)
