use Rattle.std.proofs.Common.{◌≡◌, ℕ, ◌+◌, ◌-◌, ◌<◌, ◌≤◌, Bool, true, false, cond, Some, List, [], ◌∷◌, ◌++◌, length, get_or, reverse, sym, ap, ◌∙◌, subst, inl, inr, arith}
use Rattle.std.specs.Prelude.{Contains, IsSome, ◌⊎◌}
use Rattle.std.proofs.lemmas.List.Elements.{Contains-push, Contains-append_left}
use Rattle.q_base.specs.declared.ids.ObjId.{ObjId}
use Rattle.q_value.specs.declared.value.Value.{Value}
use Rattle.row_versions.specs.declared.heaps.Change.{Change}
use Rattle.row_versions.specs.declared.slot.Deed.{Deed}
use Rattle.row_versions.specs.declared.slot.Deed.TheVariants.{Inserted, Superseded, Ended}
use Rattle.row_versions.specs.declared.tables.Place.{Place}
use Rattle.row_versions.specs.Versions.{shown_in, with_version, superseded, ended, is_settled}
use Rattle.row_versions.specs.Stored.{Stored, in_place, with_slot, slots_at, versions_in, position_of, is_live}
use Rattle.row_versions.specs.Sound.{IsSound}
use Rattle.row_versions.specs.State.{State, shown, Inserts, Supersedes, Ends}
use Rattle.row_versions.proofs.Histories.{is_some_shown}
use Rattle.row_versions.proofs.Sounds.{sound_inserted, sound_superseded, sound_ended, live_counted}
use Rattle.row_versions.proofs.Made.{slots_there, inserts_made, supersedes_made, ends_made}
use Rattle.row_versions.proofs.Positions.{position_below}
use Rattle.row_versions.proofs.Undone.{reverse-last}

-- a slot noted where it is new on the list
kept_on : (b : Bool) (stale : List Place) (place q : Place) → Contains stale q → Contains (cond b (stale ++ place ∷ []) stale) q
kept_on true stale place q h = Contains-append_left stale (place ∷ []) q h
kept_on false stale place q h = h

put_on : (b : Bool) (stale : List Place) (place : Place) → (b ≡ true) ⊎ Contains stale place → Contains (cond b (stale ++ place ∷ []) stale) place
put_on true stale place h = Contains-push stale place
put_on false stale place (inl e) = cc
put_on false stale place (inr h) = h

-- a slot that shows a row at the newest snapshot is live
pub live_there : (table : ObjId) (place : Place) (state : State) (live : ℕ) (stale : List Place) → IsSound state.tables state.newest live state.pins state.log stale → position_of table.0 state.tables ≡ Some place.table → IsSome (shown state table place.slot state.newest) → is_live (versions_in place state.tables) ≡ true
live_there table place state live stale sound added shows =
    sym (is_some_shown state.newest (versions_in place state.tables) (sound.dated place)) ∙ subst (λ slots. IsSome (shown_in (get_or slots place.slot []) state.newest)) (slots_there table state.tables place.table added) shows

-- what a change of a slot was told: the tables, the log and the list after it
pub record Told (place : Place) (deed : Deed) (after : List Stored) (noted : List Change) (more : List Place) (settled : Bool) (tables changed : List Stored) (newest : ℕ) (log : List Change) (stale : List Place) : Type 0 where
  pub tables_is : after ≡ changed
  pub log_is : noted ≡ log ++ record { place = place; deed = deed; moment = newest } ∷ []
  pub settled_is : settled ≡ is_settled (versions_in place tables)
  pub stale_is : more ≡ cond settled (stale ++ place ∷ []) stale

told_kept : (place : Place) (deed : Deed) (after : List Stored) (noted : List Change) (more : List Place) (settled : Bool) (tables changed : List Stored) (newest : ℕ) (log : List Change) (stale : List Place) → Told place deed after noted more settled tables changed newest log stale → (q : Place) → Contains stale q → Contains more q
told_kept place deed after noted more settled tables changed newest log stale told q h = subst (λ (l : List Place). Contains l q) (sym told.stale_is) (kept_on settled stale place q h)

told_here : (place : Place) (deed : Deed) (after : List Stored) (noted : List Change) (more : List Place) (settled : Bool) (tables changed : List Stored) (newest : ℕ) (log : List Change) (stale : List Place) → Told place deed after noted more settled tables changed newest log stale → (is_settled (versions_in place tables) ≡ true) ⊎ Contains stale place → Contains more place
told_here place deed after noted more settled tables changed newest log stale told h =
    subst (λ (l : List Place). Contains l place) (sym told.stale_is) (put_on settled stale place (subst (λ b. (b ≡ true) ⊎ Contains stale place) (sym told.settled_is) h))

pub sound_told_superseded : (row : List Value) (place : Place) (after : List Stored) (noted : List Change) (more : List Place) (settled : Bool) (tables : List Stored) (newest live : ℕ) (pins : List ℕ) (log : List Change) (stale : List Place) → Told place Superseded after noted more settled tables (in_place place (superseded row newest) tables) newest log stale
    → IsSound tables newest live pins (reverse log) stale → is_live (versions_in place tables) ≡ true → IsSound after newest live pins (reverse noted) more
sound_told_superseded row place after noted more settled tables newest live pins log stale told sound was =
    let change : Change = record { place = place; deed = Superseded; moment = newest } in
    let changed = in_place place (superseded row newest) tables in
    subst (λ (t : List Stored). IsSound t newest live pins (reverse noted) more) (sym told.tables_is)
    (subst (λ (l : List Change). IsSound changed newest live pins l more) (sym (reverse-last noted log change told.log_is))
    (sound_superseded row place tables newest live pins (reverse log) stale more sound was (told_kept place Superseded after noted more settled tables changed newest log stale told) (told_here place Superseded after noted more settled tables changed newest log stale told (sound.listed place))))

pub sound_told_ended : (place : Place) (after : List Stored) (noted : List Change) (more : List Place) (settled : Bool) (tables : List Stored) (newest live : ℕ) (pins : List ℕ) (log : List Change) (stale : List Place) → Told place Ended after noted more settled tables (in_place place (ended newest) tables) newest log stale
    → IsSound tables newest live pins (reverse log) stale → is_live (versions_in place tables) ≡ true → IsSound after newest (live - 1) pins (reverse noted) more
sound_told_ended place after noted more settled tables newest live pins log stale told sound was =
    let change : Change = record { place = place; deed = Ended; moment = newest } in
    let changed = in_place place (ended newest) tables in
    let some : 1 ≤ live = omega (arith, sound.counted, live_counted place tables was) in
    subst (λ (t : List Stored). IsSound t newest (live - 1) pins (reverse noted) more) (sym told.tables_is)
    (subst (λ (l : List Change). IsSound changed newest (live - 1) pins l more) (sym (reverse-last noted log change told.log_is))
    (sound_ended place tables newest live (live - 1) pins (reverse log) stale more sound was (omega arith) (told_kept place Ended after noted more settled tables changed newest log stale told) (told_here place Ended after noted more settled tables changed newest log stale told (sound.listed place))))

state_told : (place : Place) (deed : Deed) (after : List Stored) (noted : List Change) (more : List Place) (settled : Bool) (tables changed : List Stored) (newest : ℕ) (pins : List ℕ) (log : List Change) (stale : List Place) → Told place deed after noted more settled tables changed newest log stale
    → ◌≡◌ {A = State} (record { tables = after; newest = newest; pins = pins; log = reverse noted }) (record { tables = changed; newest = newest; pins = pins; log = record { place = place; deed = deed; moment = newest } ∷ reverse log })
state_told place deed after noted more settled tables changed newest pins log stale told =
    ap (λ (t : List Stored). record { tables = t; newest = newest; pins = pins; log = reverse noted }) told.tables_is
    ∙ ap (λ (l : List Change). record { tables = changed; newest = newest; pins = pins; log = l }) (reverse-last noted log (record { place = place; deed = deed; moment = newest }) told.log_is)

pub supersedes_told : (row : List Value) (table : ObjId) (place : Place) (after : List Stored) (noted : List Change) (more : List Place) (settled : Bool) (tables : List Stored) (newest live : ℕ) (pins : List ℕ) (log : List Change) (stale : List Place) → Told place Superseded after noted more settled tables (in_place place (superseded row newest) tables) newest log stale
    → IsSound tables newest live pins (reverse log) stale → position_of table.0 tables ≡ Some place.table → is_live (versions_in place tables) ≡ true
    → Supersedes table place.slot row (record { tables = tables; newest = newest; pins = pins; log = reverse log }) (record { tables = after; newest = newest; pins = pins; log = reverse noted })
supersedes_told row table place after noted more settled tables newest live pins log stale told sound added was =
    let old : State = record { tables = tables; newest = newest; pins = pins; log = reverse log } in
    subst (λ (new : State). Supersedes table place.slot row old new) (sym (state_told place Superseded after noted more settled tables (in_place place (superseded row newest) tables) newest pins log stale told)) (supersedes_made row table place old live stale sound added was)

pub ends_told : (table : ObjId) (place : Place) (after : List Stored) (noted : List Change) (more : List Place) (settled : Bool) (tables : List Stored) (newest live : ℕ) (pins : List ℕ) (log : List Change) (stale : List Place) → Told place Ended after noted more settled tables (in_place place (ended newest) tables) newest log stale
    → IsSound tables newest live pins (reverse log) stale → position_of table.0 tables ≡ Some place.table → is_live (versions_in place tables) ≡ true
    → Ends table place.slot (record { tables = tables; newest = newest; pins = pins; log = reverse log }) (record { tables = after; newest = newest; pins = pins; log = reverse noted })
ends_told table place after noted more settled tables newest live pins log stale told sound added was =
    let old : State = record { tables = tables; newest = newest; pins = pins; log = reverse log } in
    subst (λ (new : State). Ends table place.slot old new) (sym (state_told place Ended after noted more settled tables (in_place place (ended newest) tables) newest pins log stale told)) (ends_made table place old live stale sound added was)

pub sound_told_inserted : (row : List Value) (table : ObjId) (place : Place) (after : List Stored) (noted : List Change) (tables : List Stored) (newest live : ℕ) (pins : List ℕ) (log : List Change) (stale : List Place) → after ≡ with_slot place.table (with_version row newest []) tables → noted ≡ log ++ record { place = place; deed = Inserted; moment = newest } ∷ []
    → IsSound tables newest live pins (reverse log) stale → position_of table.0 tables ≡ Some place.table → place.slot ≡ length (slots_at place.table tables) → live < 1048576 → IsSound after newest (live + 1) pins (reverse noted) stale
sound_told_inserted row table place after noted tables newest live pins log stale tables_is log_is sound added at room =
    let change : Change = record { place = place; deed = Inserted; moment = newest } in
    let changed = with_slot place.table (with_version row newest []) tables in
    subst (λ (t : List Stored). IsSound t newest (live + 1) pins (reverse noted) stale) (sym tables_is)
    (subst (λ (l : List Change). IsSound changed newest (live + 1) pins l stale) (sym (reverse-last noted log change log_is))
    (sound_inserted row place.table place.slot tables newest live pins (reverse log) stale sound (position_below tables table.0 place.table added) at room))

pub inserts_told : (row : List Value) (table : ObjId) (place : Place) (after : List Stored) (noted : List Change) (tables : List Stored) (newest live : ℕ) (pins : List ℕ) (log : List Change) (stale : List Place) → after ≡ with_slot place.table (with_version row newest []) tables → noted ≡ log ++ record { place = place; deed = Inserted; moment = newest } ∷ []
    → IsSound tables newest live pins (reverse log) stale → position_of table.0 tables ≡ Some place.table → place.slot ≡ length (slots_at place.table tables)
    → Inserts table place.slot row (record { tables = tables; newest = newest; pins = pins; log = reverse log }) (record { tables = after; newest = newest; pins = pins; log = reverse noted })
inserts_told row table place after noted tables newest live pins log stale tables_is log_is sound added at =
    let old : State = record { tables = tables; newest = newest; pins = pins; log = reverse log } in
    let change : Change = record { place = place; deed = Inserted; moment = newest } in
    let changed = with_slot place.table (with_version row newest []) tables in
    let new_is : ◌≡◌ {A = State} (record { tables = after; newest = newest; pins = pins; log = reverse noted }) (record { tables = changed; newest = newest; pins = pins; log = change ∷ reverse log }) =
    ap (λ (t : List Stored). record { tables = t; newest = newest; pins = pins; log = reverse noted }) tables_is ∙ ap (λ (l : List Change). record { tables = changed; newest = newest; pins = pins; log = l }) (reverse-last noted log change log_is) in
    subst (λ (new : State). Inserts table place.slot row old new) (sym new_is) (inserts_made row table place old live stale sound added at)
