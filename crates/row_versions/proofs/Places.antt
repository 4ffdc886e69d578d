use Rattle.std.proofs.Common.{◌≡◌, ℕ, ◌<◌, Some, List, [], ◌∷◌, ◌++◌, cond, eqb, length, get_or, suc, zero, refl, sym, ap, ◌∙◌, arith}
use Rattle.std.specs.Option.{option_map}
use Rattle.q_base.specs.declared.ids.ObjId.{ObjId}
use Rattle.row_versions.specs.declared.slot.Version.{Version}
use Rattle.row_versions.specs.declared.tables.Place.{Place}
use Rattle.row_versions.specs.Stored.{Stored, changed, in_slot, in_place, with_slot, slots_at, versions_in, position_of}
use Rattle.std.proofs.lemmas.List.{get_or_push}
use Rattle.row_versions.proofs.Changed.{changed_twice, changed_alike, changed_by, changed_id, changed_keeps, changed-push, changed_last, get_or-changed, get_or_padded, pushed_keeps}

pub in_place_twice : (f g : List Version → List Version) (tables : List Stored) (place : Place) → in_place place g (in_place place f tables) ≡ in_place place (λ versions. g (f versions)) tables
in_place_twice f g tables place =
    changed_twice (in_slot place.slot f) (in_slot place.slot g) tables place.table
    ∙ changed_alike (λ table. in_slot place.slot g (in_slot place.slot f table)) (in_slot place.slot (λ versions. g (f versions))) tables place.table (λ table. ap (λ slots. record table { slots = slots }) (changed_twice f g table.slots place.slot))

-- only the versions there count
pub in_place_by : (f g : List Version → List Version) (tables : List Stored) (table slot : ℕ) → f (get_or (slots_at table tables) slot []) ≡ g (get_or (slots_at table tables) slot []) → changed table (in_slot slot f) tables ≡ changed table (in_slot slot g) tables
in_place_by f g [] table slot h = refl
in_place_by f g (t ∷ tables) zero slot h = ap (λ slots. record t { slots = slots } ∷ tables) (changed_by f g t.slots slot [] h)
in_place_by f g (t ∷ tables) (suc table) slot h = ap (λ rest. t ∷ rest) (in_place_by f g tables table slot h)

in_place_id : (tables : List Stored) (place : Place) → in_place place (λ versions. versions) tables ≡ tables
in_place_id tables place =
    changed_alike (in_slot place.slot (λ versions. versions)) (λ table. table) tables place.table (λ table. ap (λ slots. record table { slots = slots }) (changed_id table.slots place.slot)) ∙ changed_id tables place.table

pub in_place_same : (f : List Version → List Version) (tables : List Stored) (place : Place) → f (versions_in place tables) ≡ versions_in place tables → in_place place f tables ≡ tables
in_place_same f tables place h =
    in_place_by f (λ versions. versions) tables place.table place.slot h ∙ in_place_id tables place

-- the versions of a slot taken out, changed and put back
pub put_is : (f : List Version → List Version) (tables emptied put : List Stored) (place : Place) (took versions : List Version) → took ≡ versions_in place tables → emptied ≡ in_place place (λ _. []) tables → versions ≡ f took → put ≡ in_place place (λ _. versions) emptied → put ≡ in_place place f tables
put_is f tables emptied put place took versions took_is empty changed is =
    is ∙ ap (in_place place (λ _. versions)) empty ∙ in_place_twice (λ _. []) (λ _. versions) tables place ∙ in_place_by (λ _. versions) f tables place.table place.slot (changed ∙ ap f took_is)

pub slots_at-in_place : (f : List Version → List Version) (tables : List Stored) (table slot : ℕ) → slots_at table (changed table (in_slot slot f) tables) ≡ changed slot f (slots_at table tables)
slots_at-in_place f [] table slot = refl
slots_at-in_place f (t ∷ tables) zero slot = refl
slots_at-in_place f (t ∷ tables) (suc table) slot = slots_at-in_place f tables table slot

-- what holds of the versions of each slot goes on holding where it holds of the changed ones
pub in_place_keeps : (P : ℕ → ℕ → List Version → Type 0) (f : List Version → List Version) (tables : List Stored) (table slot : ℕ) → P table slot (f (get_or (slots_at table tables) slot [])) → ((t s : ℕ) → P t s (get_or (slots_at t tables) s [])) → (t s : ℕ) → P t s (get_or (slots_at t (changed table (in_slot slot f) tables)) s [])
in_place_keeps P f [] table slot here all t s = all t s
in_place_keeps P f (u ∷ tables) zero slot here all zero s = changed_keeps (P zero) f u.slots slot [] here (all zero) s
in_place_keeps P f (u ∷ tables) zero slot here all (suc t) s = all (suc t) s
in_place_keeps P f (u ∷ tables) (suc table) slot here all zero s = all zero s
in_place_keeps P f (u ∷ tables) (suc table) slot here all (suc t) s = in_place_keeps (λ i. P (suc i)) f tables table slot here (λ i. all (suc i)) t s

pub with_slot_keeps : (P : ℕ → ℕ → List Version → Type 0) (versions : List Version) (tables : List Stored) (table : ℕ) → P table (length (slots_at table tables)) versions → ((t s : ℕ) → P t s (get_or (slots_at t tables) s [])) → (t s : ℕ) → P t s (get_or (slots_at t (with_slot table versions tables)) s [])
with_slot_keeps P versions [] table here all t s = all t s
with_slot_keeps P versions (u ∷ tables) zero here all zero s = pushed_keeps (P zero) u.slots versions [] here (all zero) s
with_slot_keeps P versions (u ∷ tables) zero here all (suc t) s = all (suc t) s
with_slot_keeps P versions (u ∷ tables) (suc table) here all zero s = all zero s
with_slot_keeps P versions (u ∷ tables) (suc table) here all (suc t) s = with_slot_keeps (λ i. P (suc i)) versions tables table here (λ i. all (suc i)) t s

-- the new slot changed
pub in_place-with_slot : (f : List Version → List Version) (versions : List Version) (tables : List Stored) (table slot : ℕ) → slot ≡ length (slots_at table tables) → changed table (in_slot slot f) (with_slot table versions tables) ≡ with_slot table (f versions) tables
in_place-with_slot f versions [] table slot h = refl
in_place-with_slot f versions (t ∷ tables) zero slot h = ap (λ slots. record t { slots = slots } ∷ tables) (changed_last f t.slots slot versions h)
in_place-with_slot f versions (t ∷ tables) (suc table) slot h = ap (λ rest. t ∷ rest) (in_place-with_slot f versions tables table slot h)

-- a slot without versions is like one that was not given
pub versions_in_padded : (tables : List Stored) (table t s : ℕ) → get_or (slots_at t (with_slot table [] tables)) s [] ≡ get_or (slots_at t tables) s []
versions_in_padded [] table t s = refl
versions_in_padded (u ∷ tables) zero zero s = get_or_padded u.slots s []
versions_in_padded (u ∷ tables) zero (suc t) s = refl
versions_in_padded (u ∷ tables) (suc table) zero s = refl
versions_in_padded (u ∷ tables) (suc table) (suc t) s = versions_in_padded tables table t s

pub in_place_padded : (f : List Version → List Version) (tables : List Stored) (table t s : ℕ) → f [] ≡ [] → changed t (in_slot s f) (with_slot table [] tables) ≡ with_slot table [] (changed t (in_slot s f) tables)
in_place_padded f [] table t s h = refl
in_place_padded f (u ∷ tables) zero zero s h = ap (λ slots. record u { slots = slots } ∷ tables) (changed-push f u.slots s [] h)
in_place_padded f (u ∷ tables) zero (suc t) s h = refl
in_place_padded f (u ∷ tables) (suc table) zero s h = refl
in_place_padded f (u ∷ tables) (suc table) (suc t) s h = ap (λ rest. u ∷ rest) (in_place_padded f tables table t s h)

-- so is a table without slots
pub slots_at_joined : (tables : List Stored) (id : ObjId) (t : ℕ) → slots_at t (tables ++ record { id = id; slots = [] } ∷ []) ≡ slots_at t tables
slots_at_joined [] id zero = refl
slots_at_joined [] id (suc t) = refl
slots_at_joined (u ∷ tables) id zero = refl
slots_at_joined (u ∷ tables) id (suc t) = slots_at_joined tables id t

pub in_place_joined : (f : List Version → List Version) (tables : List Stored) (id : ObjId) (t s : ℕ) → changed t (in_slot s f) (tables ++ record { id = id; slots = [] } ∷ []) ≡ changed t (in_slot s f) tables ++ record { id = id; slots = [] } ∷ []
in_place_joined f tables id t s = changed-push (in_slot s f) tables t (record { id = id; slots = [] }) refl

position_of-changed : (f : Stored → Stored) (tables : List Stored) (n id : ℕ) → ((table : Stored) → (f table).id ≡ table.id) → position_of id (changed n f tables) ≡ position_of id tables
position_of-changed f [] n id h = refl
position_of-changed f (t ∷ tables) zero id h = ap (λ (i : ObjId). cond (eqb i.0 id) (Some 0) (option_map (λ n. suc n) (position_of id tables))) (h t)
position_of-changed f (t ∷ tables) (suc n) id h = ap (λ o. cond (eqb t.id.0 id) (Some 0) (option_map (λ n. suc n) o)) (position_of-changed f tables n id h)

pub position_of-in_place : (f : List Version → List Version) (tables : List Stored) (place : Place) (id : ℕ) → position_of id (in_place place f tables) ≡ position_of id tables
position_of-in_place f tables place id = position_of-changed (in_slot place.slot f) tables place.table id (λ table. refl)

pub position_of-with_slot : (versions : List Version) (tables : List Stored) (n id : ℕ) → position_of id (with_slot n versions tables) ≡ position_of id tables
position_of-with_slot versions tables n id = position_of-changed (λ (table : Stored). record table { slots = table.slots ++ versions ∷ [] }) tables n id (λ table. refl)

pub versions_in-in_place : (f : List Version → List Version) (tables : List Stored) (table slot : ℕ) → slot < length (slots_at table tables) → get_or (slots_at table (changed table (in_slot slot f) tables)) slot [] ≡ f (get_or (slots_at table tables) slot [])
versions_in-in_place f tables table slot h =
    ap (λ slots. get_or slots slot []) (slots_at-in_place f tables table slot) ∙ get_or-changed f (slots_at table tables) slot [] h

pub slots_at-with_slot : (versions : List Version) (tables : List Stored) (table : ℕ) → table < length tables → slots_at table (with_slot table versions tables) ≡ slots_at table tables ++ versions ∷ []
slots_at-with_slot versions [] table h = absurd (omega arith)
slots_at-with_slot versions (t ∷ tables) zero h = refl
slots_at-with_slot versions (t ∷ tables) (suc table) h = slots_at-with_slot versions tables table (omega arith)

slots_at-other : (f : Stored → Stored) (tables : List Stored) (n t : ℕ) → (t ≡ n → ⊥) → slots_at t (changed n f tables) ≡ slots_at t tables
slots_at-other f [] n t h = refl
slots_at-other f (u ∷ tables) zero zero h = absurd (h refl)
slots_at-other f (u ∷ tables) zero (suc t) h = refl
slots_at-other f (u ∷ tables) (suc n) zero h = refl
slots_at-other f (u ∷ tables) (suc n) (suc t) h = slots_at-other f tables n t (λ e. h (ap suc e))

pub slots_at-in_place_other : (f : List Version → List Version) (tables : List Stored) (place : Place) (t : ℕ) → (t ≡ place.table → ⊥) → slots_at t (in_place place f tables) ≡ slots_at t tables
slots_at-in_place_other f tables place t h = slots_at-other (in_slot place.slot f) tables place.table t h

pub slots_at-with_slot_other : (versions : List Version) (tables : List Stored) (n t : ℕ) → (t ≡ n → ⊥) → slots_at t (with_slot n versions tables) ≡ slots_at t tables
slots_at-with_slot_other versions tables n t h = slots_at-other (λ (table : Stored). record table { slots = table.slots ++ versions ∷ [] }) tables n t h

pub versions_in-with_slot : (versions : List Version) (tables : List Stored) (table slot : ℕ) → table < length tables → slot ≡ length (slots_at table tables) → get_or (slots_at table (with_slot table versions tables)) slot [] ≡ versions
versions_in-with_slot versions tables table slot h at =
    ap (λ slots. get_or slots slot []) (slots_at-with_slot versions tables table h) ∙ get_or_push (slots_at table tables) versions [] slot (sym at)
