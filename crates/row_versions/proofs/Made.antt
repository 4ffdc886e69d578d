use Rattle.std.proofs.Common.{◌≡◌, ℕ, ◌<◌, true, Some, None, List, [], ◌∷◌, ◌++◌, length, refl, sym, ap, ◌∙◌, arith}
use Rattle.std.specs.Option.{option_map_or}
use Rattle.q_base.specs.declared.ids.ObjId.{ObjId}
use Rattle.q_value.specs.declared.value.Value.{Value}
use Rattle.row_versions.specs.declared.heaps.Change.{Change}
use Rattle.row_versions.specs.declared.slot.Deed.{Deed}
use Rattle.row_versions.specs.declared.slot.Deed.TheVariants.{Inserted, Superseded, Ended}
use Rattle.row_versions.specs.declared.slot.Version.{Version}
use Rattle.row_versions.specs.declared.tables.Place.{Place}
use Rattle.row_versions.specs.Versions.{shown_in, with_version, superseded, ended, taken_back}
use Rattle.row_versions.specs.Stored.{Stored, changed, in_place, with_slot, slots_at, slots_of, versions_in, rows_in, position_of, is_live}
use Rattle.row_versions.specs.Sound.{IsSound}
use Rattle.row_versions.specs.State.{State, before, undone, replaced, without, Inserts, Supersedes, Ends, Changes, KeepsTables}
use Rattle.row_versions.proofs.Histories.{shown_in_new, shown_in_ended, shown_in_newest, newest_row, is_some_shown, IsHistory-superseded, IsHistory-ended, taken_back_ended}
use Rattle.row_versions.proofs.Places.{position_of-in_place, position_of-with_slot, slots_at-with_slot, slots_at-with_slot_other, slots_at-in_place, slots_at-in_place_other, in_place-with_slot, in_place_twice, in_place_same}
use Rattle.row_versions.proofs.Positions.{position_below}
use Rattle.row_versions.proofs.Rows.{rows_padded, rows_in-pushed}
use Rattle.row_versions.proofs.Logs.{undone_padded, rows_before}
use Rattle.row_versions.proofs.Replaced.{rows_in-replaced, rows_in-without}
use Rattle.row_versions.proofs.Marks.{changes_made}
use Rattle.row_versions.proofs.TableLemmas.{in_place_length, slots_at-more, tables_kept}

-- the slots of a table are those at its place
pub slots_there : (table : ObjId) (tables : List Stored) (place : ℕ) → position_of table.0 tables ≡ Some place → slots_of table tables ≡ slots_at place tables
slots_there table tables place e = ap (λ o. option_map_or (λ t. slots_at t tables) o []) e

pub inserts_made : (row : List Value) (table : ObjId) (place : Place) (old : State) (live : ℕ) (stale : List Place) → IsSound old.tables old.newest live old.pins old.log stale
    → position_of table.0 old.tables ≡ Some place.table → place.slot ≡ length (slots_at place.table old.tables)
    → Inserts table place.slot row old (record old { tables = with_slot place.table (with_version row old.newest []) old.tables; log = record { place = place; deed = Inserted; moment = old.newest } ∷ old.log })
inserts_made row table place old live stale sound added next =
    let change : Change = record { place = place; deed = Inserted; moment = old.newest } in
    let version = with_version row old.newest [] in
    let after = with_slot place.table version old.tables in
    let places : (id : ℕ) → position_of id after ≡ position_of id old.tables = λ id. position_of-with_slot version old.tables place.table id in
    record {
      place = place;
      slot_is = refl;
      next = next ∙ ap length (sym (slots_there table old.tables place.table added));
      tables = tables_kept 1 old (record old { tables = after; log = change ∷ old.log }) places (λ t. slots_at-more version old.tables place.table t);
      changes = changes_made change table after old live stale sound added refl places
          (λ t ne. slots_at-with_slot_other version old.tables place.table t ne)
          (λ snap t lt. rows_padded version old.tables place.table t snap (shown_in_new row old.newest snap [] lt))
          (λ k t. ap (λ ts. rows_in 0 (slots_at t (undone k ts old.log)) old.newest) (in_place-with_slot (taken_back Inserted) version old.tables place.table place.slot next) ∙ ap (λ ts. rows_in 0 (slots_at t ts) old.newest) (undone_padded k place.table old.tables old.log) ∙ rows_padded [] (undone k old.tables old.log) place.table t old.newest refl);
      shows =
          ap (λ slots. rows_in 0 slots old.newest) (slots_there table after place.table (places table.0 ∙ added) ∙ slots_at-with_slot version old.tables place.table (position_below old.tables table.0 place.table added))
          ∙ rows_in-pushed version row (slots_at place.table old.tables) 0 place.slot old.newest (shown_in_newest old.newest version (omega arith, tt, tt)) (omega arith)
          ∙ ap (λ slots. rows_in 0 slots old.newest ++ (place.slot, row) ∷ []) (sym (slots_there table old.tables place.table added));
    }

in_place_kept : (f : List Version → List Version) (deed : Deed) (place : Place) (old : State) → KeepsTables 0 old (record old { tables = in_place place f old.tables; log = record { place = place; deed = deed; moment = old.newest } ∷ old.log })
in_place_kept f deed place old =
    tables_kept 0 old (record old { tables = in_place place f old.tables; log = record { place = place; deed = deed; moment = old.newest } ∷ old.log })
    (λ id. position_of-in_place f old.tables place id)
    (λ t. omega (arith, in_place_length f old.tables place t))

-- a change of a live row that leaves what was shown before
changed_made : (f : List Version → List Version) (deed : Deed) (table : ObjId) (place : Place) (old : State) (live : ℕ) (stale : List Place) → IsSound old.tables old.newest live old.pins old.log stale
    → position_of table.0 old.tables ≡ Some place.table
    → ((snap : ℕ) → snap < old.newest → shown_in (f (versions_in place old.tables)) snap ≡ shown_in (versions_in place old.tables) snap)
    → taken_back deed (f (versions_in place old.tables)) ≡ versions_in place old.tables
    → Changes (record { place = place; deed = deed; moment = old.newest }) table (in_place place f old.tables) old (record old { tables = in_place place f old.tables; log = record { place = place; deed = deed; moment = old.newest } ∷ old.log })
changed_made f deed table place old live stale sound added older back =
    let change : Change = record { place = place; deed = deed; moment = old.newest } in
    let after = in_place place f old.tables in
    let undoes : before change after ≡ old.tables = in_place_twice f (taken_back deed) old.tables place ∙ in_place_same (λ versions. taken_back deed (f versions)) old.tables place back in
    changes_made change table after old live stale sound added refl
    (λ id. position_of-in_place f old.tables place id)
    (λ t ne. slots_at-in_place_other f old.tables place t ne)
    (λ snap t lt. rows_before f old.tables place t snap (older snap lt))
    (λ k t. ap (λ ts. rows_in 0 (slots_at t (undone k ts old.log)) old.newest) undoes)

shows_there : (f : List Version → List Version) (table : ObjId) (place : Place) (tables : List Stored) (moment : ℕ) → position_of table.0 tables ≡ Some place.table → rows_in 0 (slots_of table (in_place place f tables)) moment ≡ rows_in 0 (changed place.slot f (slots_at place.table tables)) moment
shows_there f table place tables moment added =
    ap (λ slots. rows_in 0 slots moment) (slots_there table (in_place place f tables) place.table (position_of-in_place f tables place table.0 ∙ added) ∙ slots_at-in_place f tables place.table place.slot)

pub supersedes_made : (row : List Value) (table : ObjId) (place : Place) (old : State) (live : ℕ) (stale : List Place) → IsSound old.tables old.newest live old.pins old.log stale
    → position_of table.0 old.tables ≡ Some place.table → is_live (versions_in place old.tables) ≡ true
    → Supersedes table place.slot row old (record old { tables = in_place place (superseded row old.newest) old.tables; log = record { place = place; deed = Superseded; moment = old.newest } ∷ old.log })
supersedes_made row table place old live stale sound added was =
    let versions = versions_in place old.tables in
    let dated = sound.dated place in
    record {
      place = place;
      slot_is = refl;
      tables = in_place_kept (superseded row old.newest) Superseded place old;
      changes = changed_made (superseded row old.newest) Superseded table place old live stale sound added
          (λ snap lt. shown_in_new row old.newest snap (ended old.newest versions) lt ∙ shown_in_ended old.newest snap versions was lt)
          (taken_back_ended old.newest versions was);
      shows =
          shows_there (superseded row old.newest) table place old.tables old.newest added
          ∙ rows_in-replaced (superseded row old.newest) row (slots_at place.table old.tables) place.slot 0 place.slot old.newest (shown_in_newest old.newest (superseded row old.newest versions) (IsHistory-superseded row old.newest versions dated)) (is_some_shown old.newest versions dated ∙ was) (omega arith)
          ∙ ap (λ slots. replaced place.slot row (rows_in 0 slots old.newest)) (sym (slots_there table old.tables place.table added));
    }

ended_row : (moment : ℕ) (versions : List Version) → newest_row (ended moment versions) ≡ None
ended_row moment [] = refl
ended_row moment (version ∷ versions) = refl

pub ends_made : (table : ObjId) (place : Place) (old : State) (live : ℕ) (stale : List Place) → IsSound old.tables old.newest live old.pins old.log stale
    → position_of table.0 old.tables ≡ Some place.table → is_live (versions_in place old.tables) ≡ true
    → Ends table place.slot old (record old { tables = in_place place (ended old.newest) old.tables; log = record { place = place; deed = Ended; moment = old.newest } ∷ old.log })
ends_made table place old live stale sound added was =
    let versions = versions_in place old.tables in
    record {
      place = place;
      slot_is = refl;
      tables = in_place_kept (ended old.newest) Ended place old;
      changes = changed_made (ended old.newest) Ended table place old live stale sound added
          (λ snap lt. shown_in_ended old.newest snap versions was lt)
          (taken_back_ended old.newest versions was);
      shows =
          shows_there (ended old.newest) table place old.tables old.newest added
          ∙ rows_in-without (ended old.newest) (slots_at place.table old.tables) place.slot 0 place.slot old.newest (shown_in_newest old.newest (ended old.newest versions) (IsHistory-ended old.newest versions (sound.dated place)) ∙ ended_row old.newest versions) (omega arith)
          ∙ ap (λ slots. without place.slot (rows_in 0 slots old.newest)) (sym (slots_there table old.tables place.table added));
    }
