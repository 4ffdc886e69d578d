use Rattle.std.proofs.Common.{◌≡◌, ℕ, ◌+◌, ◌<◌, ◌≤◌, true, List, [], ◌∷◌, ◌++◌, length, get_or, refl, sym, ap, ◌∙◌, subst, inl, inr, arith}
use Rattle.std.specs.Prelude.{All, Contains, ◌⊎◌}
use Rattle.q_base.specs.declared.ids.ObjId.{ObjId}
use Rattle.q_value.specs.declared.value.Value.{Value}
use Rattle.row_versions.specs.declared.heaps.Change.{Change}
use Rattle.row_versions.specs.declared.slot.Deed.{Deed}
use Rattle.row_versions.specs.declared.slot.Deed.TheVariants.{Inserted, Superseded, Ended}
use Rattle.row_versions.specs.declared.slot.Version.{Version}
use Rattle.row_versions.specs.declared.tables.Place.{Place}
use Rattle.row_versions.specs.Versions.{with_version, superseded, ended, taken_back, is_settled}
use Rattle.row_versions.specs.Stored.{Stored, in_place, with_slot, slots_at, versions_in, is_live, live_of}
use Rattle.row_versions.specs.Sound.{IsHistory, IsLast, IsSound, was_live, lives_on}
use Rattle.row_versions.specs.State.{before}
use Rattle.row_versions.proofs.Places.{in_place_keeps, with_slot_keeps, in_place-with_slot, in_place_same, in_place_twice, versions_in-in_place, versions_in-with_slot, slots_at_joined}
use Rattle.row_versions.proofs.Live.{one_if, live_of-in_place, live_of-with_slot, live_of-joined, live_of-padded, live_given, given_slot}
use Rattle.row_versions.proofs.Histories.{IsHistory-later, IsHistory-superseded, IsHistory-ended, IsHistory-taken_back, settled-taken_back, taken_back_ended, taken_back_none}
use Rattle.row_versions.proofs.Logs.{IsLog-later, IsLog-padded, IsLog-joined, IsLog-more, last_inserted, last_superseded, last_ended}

pub sound_new : IsSound [] 0 0 [] [] []
sound_new = record {
  dated = λ place. tt;
  counted = refl;
  limited = omega arith;
  logged = tt;
  pinned = λ k d lt. absurd (omega arith);
  listed = λ place. inl refl;
}

pub sound_advanced : (tables : List Stored) (newest live : ℕ) (pins : List ℕ) (log : List Change) (stale : List Place) → IsSound tables newest live pins log stale → IsSound tables (newest + 1) live pins log stale
sound_advanced tables newest live pins log stale h = record {
  dated = λ place. IsHistory-later newest (newest + 1) (versions_in place tables) (omega arith) (h.dated place);
  counted = h.counted;
  limited = h.limited;
  logged = IsLog-later newest (newest + 1) tables log (omega arith) h.logged;
  pinned = λ k d lt. omega (arith, h.pinned k d lt);
  listed = h.listed;
}

pub sound_joined : (id : ObjId) (tables : List Stored) (newest live : ℕ) (pins : List ℕ) (log : List Change) (stale : List Place) → IsSound tables newest live pins log stale → IsSound (tables ++ record { id = id; slots = [] } ∷ []) newest live pins log stale
sound_joined id tables newest live pins log stale h = record {
  dated = λ place. subst (λ (slots : List (List Version)). IsHistory newest (get_or slots place.slot [])) (sym (slots_at_joined tables id place.table)) (h.dated place);
  counted = h.counted ∙ sym (live_of-joined tables id);
  limited = h.limited;
  logged = IsLog-joined newest tables id log h.logged;
  pinned = h.pinned;
  listed = λ place. subst (λ (slots : List (List Version)). (is_settled (get_or slots place.slot []) ≡ true) ⊎ Contains stale place) (sym (slots_at_joined tables id place.table)) (h.listed place);
}

pub sound_inserted : (row : List Value) (table slot : ℕ) (tables : List Stored) (newest live : ℕ) (pins : List ℕ) (log : List Change) (stale : List Place) → IsSound tables newest live pins log stale → table < length tables → slot ≡ length (slots_at table tables) → live < 1048576
    → IsSound (with_slot table (with_version row newest []) tables) newest (live + 1) pins (record { place = record { table = table; slot = slot }; deed = Inserted; moment = newest } ∷ log) stale
sound_inserted row table slot tables newest live pins log stale h there at room = record {
  dated = λ place. with_slot_keeps (λ t s. IsHistory newest) (with_version row newest []) tables table (omega arith, tt, tt) (λ t s. h.dated (record { table = t; slot = s })) place.table place.slot;
  counted = omega (arith, h.counted, live_of-with_slot (with_version row newest []) tables table there);
  limited = omega arith;
  logged = IsLog-more (record { place = record { table = table; slot = slot }; deed = Inserted; moment = newest }) (with_slot table [] tables) (with_slot table (with_version row newest []) tables) log (last_inserted row newest (record { table = table; slot = slot }) _ (versions_in-with_slot (with_version row newest []) tables table slot there at)) (in_place-with_slot (taken_back Inserted) (with_version row newest []) tables table slot at) (omega (arith, h.limited, h.counted, live_of-padded tables table)) (IsLog-padded newest table tables log h.logged);
  pinned = h.pinned;
  listed = λ place. with_slot_keeps (λ t s versions. (is_settled versions ≡ true) ⊎ Contains stale (record { table = t; slot = s })) (with_version row newest []) tables table (inl refl) (λ t s. h.listed (record { table = t; slot = s })) place.table place.slot;
}

pub sound_changed : (f : List Version → List Version) (deed : Deed) (place : Place) (tables : List Stored) (newest live less : ℕ) (pins : List ℕ) (log : List Change) (stale more : List Place) → IsSound tables newest live pins log stale
    → is_live (versions_in place tables) ≡ true → is_live (f (versions_in place tables)) ≡ lives_on deed → IsHistory newest (f (versions_in place tables)) → IsLast (record { place = place; deed = deed; moment = newest }) (f (versions_in place tables)) → taken_back deed (f (versions_in place tables)) ≡ versions_in place tables
    → less + 1 ≡ live + one_if (lives_on deed) → less ≤ 1048576 → ((q : Place) → Contains stale q → Contains more q) → Contains more place
    → IsSound (in_place place f tables) newest less pins (record { place = place; deed = deed; moment = newest } ∷ log) more
sound_changed f deed place tables newest live less pins log stale more h live_was live_is dated last back count most kept here =
    let change : Change = record { place = place; deed = deed; moment = newest } in
    let new = in_place place f tables in
    let lt = live_given (slots_at place.table tables) place.slot live_was in
    let at : versions_in place new ≡ f (versions_in place tables) = versions_in-in_place f tables place.table place.slot lt in
    let undone : before change new ≡ tables = in_place_twice f (taken_back deed) tables place ∙ in_place_same (λ versions. taken_back deed (f versions)) tables place back in
    record {
      dated = λ q. in_place_keeps (λ t s. IsHistory newest) f tables place.table place.slot dated (λ t s. h.dated (record { table = t; slot = s })) q.table q.slot;
      counted = omega (arith, h.counted, count, live_of-in_place f tables place.table place.slot lt, ap one_if live_was, ap one_if live_is);
      limited = most;
      logged = IsLog-more change tables new log (subst (IsLast change) (sym at) last) undone (omega (arith, h.limited, h.counted)) h.logged;
      pinned = h.pinned;
      listed = λ q. in_place_keeps (λ t s versions. (is_settled versions ≡ true) ⊎ Contains more (record { table = t; slot = s })) f tables place.table place.slot (inr here) (λ t s. listed_on t s (h.listed (record { table = t; slot = s }))) q.table q.slot;
    }
  where
    listed_on : (t s : ℕ) → (is_settled (versions_in (record { table = t; slot = s }) tables) ≡ true) ⊎ Contains stale (record { table = t; slot = s }) → (is_settled (versions_in (record { table = t; slot = s }) tables) ≡ true) ⊎ Contains more (record { table = t; slot = s })
    listed_on t s (inl e) = inl e
    listed_on t s (inr e) = inr (kept (record { table = t; slot = s }) e)

pub sound_superseded : (row : List Value) (place : Place) (tables : List Stored) (newest live : ℕ) (pins : List ℕ) (log : List Change) (stale more : List Place) → IsSound tables newest live pins log stale
    → is_live (versions_in place tables) ≡ true → ((q : Place) → Contains stale q → Contains more q) → Contains more place
    → IsSound (in_place place (superseded row newest) tables) newest live pins (record { place = place; deed = Superseded; moment = newest } ∷ log) more
sound_superseded row place tables newest live pins log stale more h was kept here =
    let versions = versions_in place tables in
    sound_changed (superseded row newest) Superseded place tables newest live live pins log stale more h was refl (IsHistory-superseded row newest versions (h.dated place)) (last_superseded row newest place versions (superseded row newest versions) was refl) (taken_back_ended newest versions was) refl h.limited kept here

pub sound_ended : (place : Place) (tables : List Stored) (newest live less : ℕ) (pins : List ℕ) (log : List Change) (stale more : List Place) → IsSound tables newest live pins log stale
    → is_live (versions_in place tables) ≡ true → less + 1 ≡ live → ((q : Place) → Contains stale q → Contains more q) → Contains more place
    → IsSound (in_place place (ended newest) tables) newest less pins (record { place = place; deed = Ended; moment = newest } ∷ log) more
sound_ended place tables newest live less pins log stale more h was count kept here =
    let versions = versions_in place tables in
    let last = last_ended newest place versions (ended newest versions) was refl in
    sound_changed (ended newest) Ended place tables newest live less pins log stale more h was last.after (IsHistory-ended newest versions (h.dated place)) last (taken_back_ended newest versions was) (omega arith) (omega (arith, h.limited)) kept here

-- a live row is counted
pub live_counted : (place : Place) (tables : List Stored) → is_live (versions_in place tables) ≡ true → 1 ≤ live_of tables
live_counted place tables live =
    omega (arith, live_of-in_place (λ _. []) tables place.table place.slot (live_given (slots_at place.table tables) place.slot live), ap one_if live)

-- the slot of a change that can be taken back was given
changed_slot : (change : Change) (tables : List Stored) → IsLast change (versions_in change.place tables) → change.place.slot < length (slots_at change.place.table tables)
changed_slot change tables last = given_slot (slots_at change.place.table tables) change.place.slot (λ none. go change.deed refl none)
  where
    go : (deed : Deed) → change.deed ≡ deed → versions_in change.place tables ≡ [] → ⊥
    go Inserted e none = absurd (let h : is_live [] ≡ true = sym (ap is_live none) ∙ last.after ∙ ap lives_on e in cc)
    go Superseded e none = absurd (let h : is_live [] ≡ true = sym (ap is_live none) ∙ last.after ∙ ap lives_on e in cc)
    go Ended e none = absurd (let h : is_live [] ≡ true = sym (ap is_live (ap (taken_back change.deed) none ∙ taken_back_none change.deed)) ∙ last.earlier ∙ ap was_live e in cc)

pub live_before : (change : Change) (tables : List Stored) → IsLast change (versions_in change.place tables) → live_of (before change tables) + one_if (lives_on change.deed) ≡ live_of tables + one_if (was_live change.deed)
live_before change tables last =
    omega (arith, live_of-in_place (taken_back change.deed) tables change.place.table change.place.slot (changed_slot change tables last), ap one_if last.after, ap one_if last.earlier)

pub sound_back : (change : Change) (tables : List Stored) (newest live less : ℕ) (pins : List ℕ) (log : List Change) (stale : List Place) → IsSound tables newest live pins (change ∷ log) stale
    → less + one_if (lives_on change.deed) ≡ live + one_if (was_live change.deed)
    → IsSound (before change tables) newest less pins log stale
sound_back change tables newest live less pins log stale h count =
    let same : less ≡ live_of (before change tables) = omega (arith, h.counted, live_before change tables h.logged.1) in
    record {
      dated = λ q. in_place_keeps (λ t s. IsHistory newest) (taken_back change.deed) tables change.place.table change.place.slot (IsHistory-taken_back change.deed newest (versions_in change.place tables) (h.dated change.place)) (λ t s. h.dated (record { table = t; slot = s })) q.table q.slot;
      counted = same;
      limited = subst (λ k. k ≤ 1048576) (sym same) h.logged.2;
      logged = IsLog-later change.moment newest (before change tables) log h.logged.0 h.logged.3;
      pinned = h.pinned;
      listed = λ q. in_place_keeps (λ t s versions. (is_settled versions ≡ true) ⊎ Contains stale (record { table = t; slot = s })) (taken_back change.deed) tables change.place.table change.place.slot (settled_on (h.listed change.place)) (λ t s. h.listed (record { table = t; slot = s })) q.table q.slot;
    }
  where
    settled_on : (is_settled (versions_in change.place tables) ≡ true) ⊎ Contains stale change.place → (is_settled (taken_back change.deed (versions_in change.place tables)) ≡ true) ⊎ Contains stale change.place
    settled_on (inl e) = inl (settled-taken_back change.deed (versions_in change.place tables) e)
    settled_on (inr e) = inr e

pub sound_pins : (pins other : List ℕ) (tables : List Stored) (newest live : ℕ) (log : List Change) (stale : List Place) → IsSound tables newest live pins log stale → All (λ pin. pin < newest) other → IsSound tables newest live other log stale
sound_pins pins other tables newest live log stale h below = record {
  dated = h.dated;
  counted = h.counted;
  limited = h.limited;
  logged = h.logged;
  pinned = below;
  listed = h.listed;
}

pub sound_forgotten : (tables : List Stored) (newest live : ℕ) (pins : List ℕ) (log : List Change) (stale : List Place) → IsSound tables newest live pins log stale → IsSound tables newest live pins [] stale
sound_forgotten tables newest live pins log stale h = record {
  dated = h.dated;
  counted = h.counted;
  limited = h.limited;
  logged = tt;
  pinned = h.pinned;
  listed = h.listed;
}
