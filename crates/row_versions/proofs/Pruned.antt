use Rattle.std.proofs.Common.{◌≡◌, ℕ, ◌+◌, ◌-◌, ◌<◌, ◌≤◌, Bool, true, false, cond, eqb, Option, Some, None, List, [], ◌∷◌, length, get_or, take, set, suc, zero, refl, sym, ap, ◌∙◌, subst, inl, inr, arith}
use Rattle.std.specs.Prelude.{Contains, count_by, map, is_none, ◌⊎◌, ◌||◌, IsSomeAnd, IfSome}
use Rattle.std.specs.List.{list_any, swap_remove}
use Rattle.std.specs.Option.{option_map}
use Rattle.std.proofs.lemmas.List.{take-take, take-set, take_more, get_or_default}
use Rattle.std.proofs.lemmas.List.Elements.{Contains-push_cases}
use Rattle.std.proofs.lemmas.List.Sorted.{Contains-permutation, IsPermutation-swap_remove}
use Rattle.std.proofs.lemmas.List.Sums.{sum_by-cons}
use Rattle.std.proofs.lemmas.List.Folds.{list_any_at}
use Rattle.q_base.specs.declared.ids.ObjId.{ObjId}
use Rattle.row_versions.specs.declared.slot.Version.{Version}
use Rattle.row_versions.specs.declared.tables.Place.{Place}
use Rattle.row_versions.specs.Versions.{is_shown, shown_in, is_needed, kept, is_settled}
use Rattle.row_versions.specs.Stored.{Stored, changed, in_slot, in_place, with_row, slots_at, slots_of, versions_in, rows_in, position_of, is_live, live_of, pruned}
use Rattle.row_versions.specs.Sound.{ArePast, IsHistory}
use Rattle.row_versions.proofs.Histories.{is_shown_newest}
use Rattle.row_versions.proofs.Live.{one_if}
use Rattle.row_versions.proofs.Places.{in_place_keeps, slots_at-in_place}
use Rattle.row_versions.proofs.Rows.{same_rows}

-- what is kept is kept again
pub kept_twice : (snaps : List ℕ) (versions : List Version) → kept snaps (kept snaps versions) ≡ kept snaps versions
kept_twice snaps [] = refl
kept_twice snaps (version ∷ versions) = go (is_needed snaps version) refl (kept_twice snaps versions)
  where
    go : (b : Bool) → is_needed snaps version ≡ b → kept snaps (kept snaps versions) ≡ kept snaps versions → kept snaps (cond (is_needed snaps version) (version ∷ kept snaps versions) (kept snaps versions)) ≡ cond (is_needed snaps version) (version ∷ kept snaps versions) (kept snaps versions)
    go true e more =
        ap (λ b. kept snaps (cond b (version ∷ kept snaps versions) (kept snaps versions))) e ∙ ap (λ b. cond b (version ∷ kept snaps (kept snaps versions)) (kept snaps (kept snaps versions))) e ∙ ap (λ vs. version ∷ vs) more ∙ sym (ap (λ b. cond b (version ∷ kept snaps versions) (kept snaps versions)) e)
    go false e more =
        ap (λ b. kept snaps (cond b (version ∷ kept snaps versions) (kept snaps versions))) e ∙ more ∙ sym (ap (λ b. cond b (version ∷ kept snaps versions) (kept snaps versions)) e)

-- a settled slot keeps what it has
live_needed : (newest : ℕ) (pins : List ℕ) (version : Version) (versions : List Version) → IsHistory newest (version ∷ versions) → is_none version.until ≡ true → is_needed (newest ∷ pins) version ≡ true
live_needed newest pins version versions h live = ap (λ b. b || list_any (is_shown version) pins) (is_shown_newest newest version h.0 h.1 ∙ live)

pub settled_kept : (newest : ℕ) (pins : List ℕ) (versions : List Version) → IsHistory newest versions → is_settled versions ≡ true → kept (newest ∷ pins) versions ≡ versions
settled_kept newest pins [] h e = refl
settled_kept newest pins (version ∷ []) h e = ap (λ b. cond b (version ∷ []) []) (live_needed newest pins version [] h e)
settled_kept newest pins (version ∷ next ∷ versions) h e = cc

-- what is kept of a history is one
past_kept : (newest : ℕ) (snaps : List ℕ) (versions : List Version) → ArePast newest versions → ArePast newest (kept snaps versions)
past_kept newest snaps [] h = tt
past_kept newest snaps (version ∷ versions) h = go (is_needed snaps version) (past_kept newest snaps versions h.1)
  where
    go : (b : Bool) → ArePast newest (kept snaps versions) → ArePast newest (cond b (version ∷ kept snaps versions) (kept snaps versions))
    go true more = (h.0, more)
    go false more = more

past_history : (newest : ℕ) (versions : List Version) → ArePast newest versions → IsHistory newest versions
past_history newest [] h = tt
past_history newest (version ∷ versions) h = (h.0.made, ends version.until h.0.ended, h.1)
  where
    ends : (until : Option ℕ) → IsSomeAnd until (λ u. u ≤ newest) → IfSome until (λ u. u ≤ newest)
    ends None h = absurd h
    ends (Some u) h = h

pub IsHistory-kept : (newest : ℕ) (snaps : List ℕ) (versions : List Version) → IsHistory newest versions → IsHistory newest (kept snaps versions)
IsHistory-kept newest snaps [] h = tt
IsHistory-kept newest snaps (version ∷ versions) h = go (is_needed snaps version) (past_kept newest snaps versions h.2)
  where
    go : (b : Bool) → ArePast newest (kept snaps versions) → IsHistory newest (cond b (version ∷ kept snaps versions) (kept snaps versions))
    go true more = (h.0, h.1, more)
    go false more = past_history newest (kept snaps versions) more

past_not_live : (newest : ℕ) (versions : List Version) → ArePast newest versions → is_live versions ≡ false
past_not_live newest [] h = refl
past_not_live newest (version ∷ versions) h = go version.until h.0.ended
  where
    go : (until : Option ℕ) → IsSomeAnd until (λ u. u ≤ newest) → is_none until ≡ false
    go None h = absurd h
    go (Some u) h = refl

-- a live row stays, and no other becomes live
pub is_live-kept : (newest : ℕ) (pins : List ℕ) (versions : List Version) → IsHistory newest versions → is_live (kept (newest ∷ pins) versions) ≡ is_live versions
is_live-kept newest pins [] h = refl
is_live-kept newest pins (version ∷ versions) h = go (is_none version.until) refl
  where
    dead : (b : Bool) → is_none version.until ≡ false → is_live (cond b (version ∷ kept (newest ∷ pins) versions) (kept (newest ∷ pins) versions)) ≡ is_none version.until
    dead true e = refl
    dead false e = past_not_live newest (kept (newest ∷ pins) versions) (past_kept newest (newest ∷ pins) versions h.2) ∙ sym e

    go : (b : Bool) → is_none version.until ≡ b → is_live (cond (is_needed (newest ∷ pins) version) (version ∷ kept (newest ∷ pins) versions) (kept (newest ∷ pins) versions)) ≡ is_none version.until
    go true e = ap (λ b. is_live (cond b (version ∷ kept (newest ∷ pins) versions) (kept (newest ∷ pins) versions))) (live_needed newest pins version versions h e)
    go false e = dead (is_needed (newest ∷ pins) version) e

-- the snapshots for which versions are kept show what they showed
pub shown_in-kept : (snaps : List ℕ) (snap : ℕ) (versions : List Version) → Contains snaps snap → shown_in (kept snaps versions) snap ≡ shown_in versions snap
shown_in-kept snaps snap [] h = refl
shown_in-kept snaps snap (version ∷ versions) h = go (is_shown version snap) refl (is_needed snaps version) refl (shown_in-kept snaps snap versions h)
  where
    needed : is_shown version snap ≡ true → is_needed snaps version ≡ true
    needed e = list_any_at (is_shown version) snaps h.0 snap h.1 (ap (is_shown version) h.2 ∙ e)

    go : (a : Bool) → is_shown version snap ≡ a → (b : Bool) → is_needed snaps version ≡ b → shown_in (kept snaps versions) snap ≡ shown_in versions snap → shown_in (cond (is_needed snaps version) (version ∷ kept snaps versions) (kept snaps versions)) snap ≡ cond (is_shown version snap) (Some version.row) (shown_in versions snap)
    go true e b f more = ap (λ c. shown_in (cond c (version ∷ kept snaps versions) (kept snaps versions)) snap) (needed e) ∙ ap (λ c. cond c (Some version.row) (shown_in (kept snaps versions) snap)) e ∙ sym (ap (λ c. cond c (Some version.row) (shown_in versions snap)) e)
    go false e true f more = ap (λ c. shown_in (cond c (version ∷ kept snaps versions) (kept snaps versions)) snap) f ∙ ap (cond (is_shown version snap) (Some version.row)) more
    go false e false f more = ap (λ c. shown_in (cond c (version ∷ kept snaps versions) (kept snaps versions)) snap) f ∙ more ∙ sym (ap (λ c. cond c (Some version.row) (shown_in versions snap)) e)

map_changed : {A B : Type 0} (g : A → B) (f : A → A) (xs : List A) (n : ℕ) → ((x : A) → g (f x) ≡ g x) → map g (changed n f xs) ≡ map g xs
map_changed g f [] n h = refl
map_changed g f (x ∷ xs) zero h = ap (λ y. y ∷ map g xs) (h x)
map_changed g f (x ∷ xs) (suc n) h = ap (λ ys. g x ∷ ys) (map_changed g f xs n h)

-- what is to be kept of a slot can be kept first
pub pruned-in_place : (snaps : List ℕ) (tables : List Stored) (place : Place) → pruned snaps (in_place place (kept snaps) tables) ≡ pruned snaps tables
pruned-in_place snaps tables place =
    map_changed (λ (table : Stored). record table { slots = map (kept snaps) table.slots }) (in_slot place.slot (kept snaps)) tables place.table
    (λ table. ap (λ slots. record table { slots = slots }) (map_changed (kept snaps) (kept snaps) table.slots place.slot (kept_twice snaps)))

map_fixed : {A : Type 0} (g : A → A) (xs : List A) (d : A) → ((k : ℕ) → g (get_or xs k d) ≡ get_or xs k d) → map g xs ≡ xs
map_fixed g [] d h = refl
map_fixed g (x ∷ xs) d h = ap (λ y. y ∷ map g xs) (h zero) ∙ ap (λ ys. x ∷ ys) (map_fixed g xs d (λ k. h (suc k)))

-- where each slot has what is to be kept, nothing is left to be done
pub pruned_fixed : (snaps : List ℕ) (tables : List Stored) → ((t s : ℕ) → kept snaps (get_or (slots_at t tables) s []) ≡ get_or (slots_at t tables) s []) → pruned snaps tables ≡ tables
pruned_fixed snaps [] h = refl
pruned_fixed snaps (table ∷ tables) h =
    ap (λ slots. record table { slots = slots } ∷ pruned snaps tables) (map_fixed (kept snaps) table.slots [] (h zero)) ∙ ap (λ ts. table ∷ ts) (pruned_fixed snaps tables (λ t. h (suc t)))

get_or-changed_any : {A : Type 0} (f : A → A) (xs : List A) (n : ℕ) (d : A) → f d ≡ d → get_or (changed n f xs) n d ≡ f (get_or xs n d)
get_or-changed_any f [] n d h = sym h
get_or-changed_any f (x ∷ xs) zero d h = refl
get_or-changed_any f (x ∷ xs) (suc n) d h = get_or-changed_any f xs n d h

pub versions_in-pruned : (snaps : List ℕ) (tables : List Stored) (place : Place) → versions_in place (in_place place (kept snaps) tables) ≡ kept snaps (versions_in place tables)
versions_in-pruned snaps tables place =
    ap (λ slots. get_or slots place.slot []) (slots_at-in_place (kept snaps) tables place.table place.slot) ∙ get_or-changed_any (kept snaps) (slots_at place.table tables) place.slot [] refl

cons_cases : {A : Type 0} (x : A) (xs : List A) (y : A) → Contains (x ∷ xs) y → (x ≡ y) ⊎ Contains xs y
cons_cases x xs y h = go h.0 h.1 h.2
  where
    go : (k : ℕ) → k < suc (length xs) → get_or (x ∷ xs) k y ≡ y → (x ≡ y) ⊎ Contains xs y
    go zero lt e = inl e
    go (suc k) lt e = inr (k, omega arith, e)

-- what is on the list but for one place
pub Contains-swap_remove : (stale : List Place) (at : ℕ) (place q : Place) → at < length stale → place ≡ get_or stale at place → Contains stale q → Contains (swap_remove stale at place) q ⊎ (place ≡ q)
Contains-swap_remove stale at place q lt is h = go (cons_cases place (swap_remove stale at place) q (Contains-permutation stale (place ∷ swap_remove stale at place) q (IsPermutation-swap_remove stale at place lt is) h))
  where
    go : (place ≡ q) ⊎ Contains (swap_remove stale at place) q → Contains (swap_remove stale at place) q ⊎ (place ≡ q)
    go (inl e) = inr e
    go (inr e) = inl e

pub take-swap_remove : (stale : List Place) (at : ℕ) (place : Place) → at < length stale → take at (swap_remove stale at place) ≡ take at stale
take-swap_remove stale at place lt =
    take-take at (length stale - 1) (set stale at (get_or stale (length stale - 1) place)) (omega arith) ∙ take-set stale at (get_or stale (length stale - 1) place)

-- one slot pruned: it is as it is to be, and the others are as they were
pub rest_step : (snaps : List ℕ) (tables : List Stored) (stale : List Place) (left : ℕ) (place : Place) → left < length stale → place ≡ get_or stale left place
    → ((q : Place) → (kept snaps (versions_in q tables) ≡ versions_in q tables) ⊎ Contains (take (left + 1) stale) q)
    → (q : Place) → (kept snaps (versions_in q (in_place place (kept snaps) tables)) ≡ versions_in q (in_place place (kept snaps) tables)) ⊎ Contains (take left stale) q
rest_step snaps tables stale left place lt is rest q =
    last (in_place_keeps (λ t s versions. (kept snaps versions ≡ versions) ⊎ (Contains (take left stale) (record { table = t; slot = s }) ⊎ (place ≡ record { table = t; slot = s }))) (kept snaps) tables place.table place.slot (inl (kept_twice snaps (versions_in place tables))) (λ t s. first (record { table = t; slot = s }) (rest (record { table = t; slot = s }))) q.table q.slot)
  where
    split : (r : Place) → Contains (take left stale) r ⊎ (get_or stale left place ≡ r) → Contains (take left stale) r ⊎ (place ≡ r)
    split r (inl h) = inl h
    split r (inr e) = inr (is ∙ e)

    first : (r : Place) → (kept snaps (versions_in r tables) ≡ versions_in r tables) ⊎ Contains (take (left + 1) stale) r → (kept snaps (versions_in r tables) ≡ versions_in r tables) ⊎ (Contains (take left stale) r ⊎ (place ≡ r))
    first r (inl e) = inl e
    first r (inr h) = inr (split r (Contains-push_cases (take left stale) (get_or stale left place) r (subst (λ (l : List Place). Contains l r) (take_more stale left place lt) h)))

    fixed : kept snaps (versions_in place (in_place place (kept snaps) tables)) ≡ versions_in place (in_place place (kept snaps) tables)
    fixed = ap (kept snaps) (versions_in-pruned snaps tables place) ∙ kept_twice snaps (versions_in place tables) ∙ sym (versions_in-pruned snaps tables place)

    last : (kept snaps (versions_in q (in_place place (kept snaps) tables)) ≡ versions_in q (in_place place (kept snaps) tables)) ⊎ (Contains (take left stale) q ⊎ (place ≡ q)) → (kept snaps (versions_in q (in_place place (kept snaps) tables)) ≡ versions_in q (in_place place (kept snaps) tables)) ⊎ Contains (take left stale) q
    last (inl e) = inl e
    last (inr (inl h)) = inr h
    last (inr (inr e)) = inl (subst (λ (r : Place). kept snaps (versions_in r (in_place place (kept snaps) tables)) ≡ versions_in r (in_place place (kept snaps) tables)) e fixed)

-- a slot that isn't settled stays on the list
pub listed_kept : (snaps : List ℕ) (tables : List Stored) (stale : List Place) (place : Place) → Contains stale place
    → ((q : Place) → (is_settled (versions_in q tables) ≡ true) ⊎ Contains stale q)
    → (q : Place) → (is_settled (versions_in q (in_place place (kept snaps) tables)) ≡ true) ⊎ Contains stale q
listed_kept snaps tables stale place here listed q =
    in_place_keeps (λ t s versions. (is_settled versions ≡ true) ⊎ Contains stale (record { table = t; slot = s })) (kept snaps) tables place.table place.slot (inr here) (λ t s. listed (record { table = t; slot = s })) q.table q.slot

-- one that is settled may go
pub listed_less : (snaps : List ℕ) (tables : List Stored) (stale less : List Place) (place : Place) → is_settled (kept snaps (versions_in place tables)) ≡ true
    → ((q : Place) → Contains stale q → Contains less q ⊎ (place ≡ q))
    → ((q : Place) → (is_settled (versions_in q tables) ≡ true) ⊎ Contains stale q)
    → (q : Place) → (is_settled (versions_in q (in_place place (kept snaps) tables)) ≡ true) ⊎ Contains less q
listed_less snaps tables stale less place settled fewer listed q =
    last (in_place_keeps (λ t s versions. (is_settled versions ≡ true) ⊎ (Contains less (record { table = t; slot = s }) ⊎ (place ≡ record { table = t; slot = s }))) (kept snaps) tables place.table place.slot (inl settled) (λ t s. first (record { table = t; slot = s }) (listed (record { table = t; slot = s }))) q.table q.slot)
  where
    first : (r : Place) → (is_settled (versions_in r tables) ≡ true) ⊎ Contains stale r → (is_settled (versions_in r tables) ≡ true) ⊎ (Contains less r ⊎ (place ≡ r))
    first r (inl e) = inl e
    first r (inr h) = inr (fewer r h)

    here : is_settled (versions_in place (in_place place (kept snaps) tables)) ≡ true
    here = ap is_settled (versions_in-pruned snaps tables place) ∙ settled

    last : (is_settled (versions_in q (in_place place (kept snaps) tables)) ≡ true) ⊎ (Contains less q ⊎ (place ≡ q)) → (is_settled (versions_in q (in_place place (kept snaps) tables)) ≡ true) ⊎ Contains less q
    last (inl e) = inl e
    last (inr (inl h)) = inr h
    last (inr (inr e)) = inl (subst (λ (r : Place). is_settled (versions_in r (in_place place (kept snaps) tables)) ≡ true) e here)

pub dated_step : (newest : ℕ) (snaps : List ℕ) (tables : List Stored) (place : Place) → ((q : Place) → IsHistory newest (versions_in q tables)) → (q : Place) → IsHistory newest (versions_in q (in_place place (kept snaps) tables))
dated_step newest snaps tables place dated q =
    in_place_keeps (λ t s. IsHistory newest) (kept snaps) tables place.table place.slot (IsHistory-kept newest snaps (versions_in place tables) (dated place)) (λ t s. dated (record { table = t; slot = s })) q.table q.slot

-- the rest of the pruning as a whole
live_count : (newest : ℕ) (pins : List ℕ) (slots : List (List Version)) → ((s : ℕ) → IsHistory newest (get_or slots s [])) → count_by is_live (map (kept (newest ∷ pins)) slots) ≡ count_by is_live slots
live_count newest pins [] dated = refl
live_count newest pins (versions ∷ slots) dated =
    omega (arith, sum_by-cons (λ (v : List Version). one_if (is_live v)) (kept (newest ∷ pins) versions) (map (kept (newest ∷ pins)) slots), sum_by-cons (λ (v : List Version). one_if (is_live v)) versions slots, ap one_if (is_live-kept newest pins versions (dated zero)), live_count newest pins slots (λ s. dated (suc s)))

pub live_of-pruned : (newest : ℕ) (pins : List ℕ) (tables : List Stored) → ((t s : ℕ) → IsHistory newest (get_or (slots_at t tables) s [])) → live_of (pruned (newest ∷ pins) tables) ≡ live_of tables
live_of-pruned newest pins [] dated = refl
live_of-pruned newest pins (table ∷ tables) dated =
    omega (arith, sum_by-cons (λ (t : Stored). count_by is_live t.slots) (record table { slots = map (kept (newest ∷ pins)) table.slots }) (pruned (newest ∷ pins) tables), sum_by-cons (λ (t : Stored). count_by is_live t.slots) table tables, live_count newest pins table.slots (dated zero), live_of-pruned newest pins tables (λ t. dated (suc t)))

rows_in-pruned : (snaps : List ℕ) (slots : List (List Version)) (k snap : ℕ) → Contains snaps snap → rows_in k (map (kept snaps) slots) snap ≡ rows_in k slots snap
rows_in-pruned snaps [] k snap h = refl
rows_in-pruned snaps (versions ∷ slots) k snap h =
    ap (λ row. with_row k row (rows_in (k + 1) (map (kept snaps) slots) snap)) (shown_in-kept snaps snap versions h) ∙ ap (with_row k (shown_in versions snap)) (rows_in-pruned snaps slots (k + 1) snap h)

pub position_of-pruned : (snaps : List ℕ) (tables : List Stored) (id : ℕ) → position_of id (pruned snaps tables) ≡ position_of id tables
position_of-pruned snaps [] id = refl
position_of-pruned snaps (table ∷ tables) id = ap (λ o. cond (eqb table.id.0 id) (Some 0) (option_map (λ n. suc n) o)) (position_of-pruned snaps tables id)

pub slots_at-pruned : (snaps : List ℕ) (tables : List Stored) (t : ℕ) → slots_at t (pruned snaps tables) ≡ map (kept snaps) (slots_at t tables)
slots_at-pruned snaps [] t = refl
slots_at-pruned snaps (table ∷ tables) zero = refl
slots_at-pruned snaps (table ∷ tables) (suc t) = slots_at-pruned snaps tables t

pub rows_pruned : (snaps : List ℕ) (tables : List Stored) (id : ObjId) (snap : ℕ) → Contains snaps snap → rows_in 0 (slots_of id (pruned snaps tables)) snap ≡ rows_in 0 (slots_of id tables) snap
rows_pruned snaps tables id snap h = same_rows tables (pruned snaps tables) id snap snap (position_of-pruned snaps tables id.0) (λ t. ap (λ slots. rows_in 0 slots snap) (slots_at-pruned snaps tables t) ∙ rows_in-pruned snaps (slots_at t tables) 0 snap h)

-- the element that is removed is the one that was read
pub removed_at : (stale less : List Place) (at : ℕ) (place removed : Place) → at < length stale → place ≡ get_or stale at place → removed ≡ get_or stale at removed → less ≡ swap_remove stale at removed → less ≡ swap_remove stale at place
removed_at stale less at place removed lt is read less_is = less_is ∙ ap (swap_remove stale at) (read ∙ get_or_default stale at removed place lt ∙ sym is)

pub all_pruned : (snaps : List ℕ) (tables : List Stored) (stale : List Place) (left : ℕ) → left ≡ 0 → ((q : Place) → (kept snaps (versions_in q tables) ≡ versions_in q tables) ⊎ Contains (take left stale) q) → pruned snaps tables ≡ tables
all_pruned snaps tables stale left none rest = pruned_fixed snaps tables (λ t s. fixed t s (rest (record { table = t; slot = s })))
  where
    nothing : (q : Place) → Contains (take left stale) q → ⊥
    nothing q h = let lt : h.0 < 0 = subst (λ n. h.0 < length (take n stale)) none h.1 in omega arith

    fixed : (t s : ℕ) → (kept snaps (get_or (slots_at t tables) s []) ≡ get_or (slots_at t tables) s []) ⊎ Contains (take left stale) (record { table = t; slot = s }) → kept snaps (get_or (slots_at t tables) s []) ≡ get_or (slots_at t tables) s []
    fixed t s (inl e) = e
    fixed t s (inr h) = absurd (nothing (record { table = t; slot = s }) h)
