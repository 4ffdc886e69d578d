use Rattle.std.proofs.Common.{◌≡◌, ℕ, ◌+◌, ◌<◌, ◌≤◌, true, false, List, [], ◌∷◌, ◌++◌, get_or, take, drop, suc, zero, refl, sym, ap, ◌∙◌, subst, inl, inr, arith}
use Rattle.std.specs.Prelude.{All, ◌⊎◌}
use Rattle.q_base.specs.declared.ids.ObjId.{ObjId}
use Rattle.q_value.specs.declared.value.Value.{Value}
use Rattle.row_versions.specs.declared.heaps.Change.{Change}
use Rattle.row_versions.specs.declared.slot.Deed.TheVariants.{Inserted, Superseded, Ended}
use Rattle.row_versions.specs.declared.slot.Version.{Version}
use Rattle.row_versions.specs.declared.tables.Place.{Place}
use Rattle.row_versions.specs.Versions.{shown_in, with_version, superseded, ended, taken_back}
use Rattle.row_versions.specs.Stored.{Stored, in_place, with_slot, slots_at, versions_in, rows_in, position_of, is_live, live_of}
use Rattle.row_versions.specs.Sound.{IsHistory, IsLast, IsLog}
use Rattle.row_versions.specs.State.{before, undone}
use Rattle.row_versions.proofs.Places.{versions_in_padded, in_place_padded, slots_at_joined, in_place_joined, in_place_keeps, position_of-in_place, slots_at-in_place, slots_at-in_place_other}
use Rattle.row_versions.proofs.Live.{live_of-padded, live_of-joined}
use Rattle.row_versions.proofs.Histories.{taken_back_none, taken_back_ended, shown_in_new, shown_in_ended, IsHistory-taken_back}
use Rattle.row_versions.proofs.Rows.{rows_in-changed}
use Rattle.std.proofs.lemmas.Bool.{cases_eq}

pub IsLog-later : (moment later : ℕ) (tables : List Stored) (log : List Change) → moment ≤ later → IsLog moment tables log → IsLog later tables log
IsLog-later moment later tables [] le h = tt
IsLog-later moment later tables (change ∷ log) le h = (omega (arith, h.0), h.1, h.2, h.3)

before_padded : (change : Change) (tables : List Stored) (n : ℕ) → before change (with_slot n [] tables) ≡ with_slot n [] (before change tables)
before_padded change tables n = in_place_padded (taken_back change.deed) tables n change.place.table change.place.slot (taken_back_none change.deed)

-- the changes lead to the tables with one more slot that is empty, too
pub IsLog-padded : (moment n : ℕ) (tables : List Stored) (log : List Change) → IsLog moment tables log → IsLog moment (with_slot n [] tables) log
IsLog-padded moment n tables [] h = tt
IsLog-padded moment n tables (change ∷ log) h = (
  h.0,
  subst (IsLast change) (sym (versions_in_padded tables n change.place.table change.place.slot)) h.1,
  subst (λ (t : List Stored). live_of t ≤ 1048576) (sym (before_padded change tables n)) (subst (λ k. k ≤ 1048576) (sym (live_of-padded (before change tables) n)) h.2),
  subst (λ (t : List Stored). IsLog change.moment t log) (sym (before_padded change tables n)) (IsLog-padded change.moment n (before change tables) log h.3),
)

before_joined : (change : Change) (tables : List Stored) (id : ObjId) → before change (tables ++ record { id = id; slots = [] } ∷ []) ≡ before change tables ++ record { id = id; slots = [] } ∷ []
before_joined change tables id = in_place_joined (taken_back change.deed) tables id change.place.table change.place.slot

pub IsLog-joined : (moment : ℕ) (tables : List Stored) (id : ObjId) (log : List Change) → IsLog moment tables log → IsLog moment (tables ++ record { id = id; slots = [] } ∷ []) log
IsLog-joined moment tables id [] h = tt
IsLog-joined moment tables id (change ∷ log) h = (
  h.0,
  subst (λ (slots : List (List Version)). IsLast change (get_or slots change.place.slot [])) (sym (slots_at_joined tables id change.place.table)) h.1,
  subst (λ (t : List Stored). live_of t ≤ 1048576) (sym (before_joined change tables id)) (subst (λ k. k ≤ 1048576) (sym (live_of-joined (before change tables) id)) h.2),
  subst (λ (t : List Stored). IsLog change.moment t log) (sym (before_joined change tables id)) (IsLog-joined change.moment (before change tables) id log h.3),
)

-- one more change
pub IsLog-more : (change : Change) (old new : List Stored) (log : List Change) → IsLast change (versions_in change.place new) → before change new ≡ old → live_of old ≤ 1048576 → IsLog change.moment old log → IsLog change.moment new (change ∷ log)
IsLog-more change old new log last back most h =
    (omega arith, last, subst (λ (t : List Stored). live_of t ≤ 1048576) (sym back) most, subst (λ (t : List Stored). IsLog change.moment t log) (sym back) h)

pub undone_padded : (k n : ℕ) (tables : List Stored) (log : List Change) → undone k (with_slot n [] tables) log ≡ with_slot n [] (undone k tables log)
undone_padded zero n tables log = refl
undone_padded (suc k) n tables [] = refl
undone_padded (suc k) n tables (change ∷ log) = ap (λ t. undone k t log) (before_padded change tables n) ∙ undone_padded k n (before change tables) log

pub undone_joined : (k : ℕ) (tables : List Stored) (id : ObjId) (log : List Change) → undone k (tables ++ record { id = id; slots = [] } ∷ []) log ≡ undone k tables log ++ record { id = id; slots = [] } ∷ []
undone_joined zero tables id log = refl
undone_joined (suc k) tables id [] = refl
undone_joined (suc k) tables id (change ∷ log) = ap (λ t. undone k t log) (before_joined change tables id) ∙ undone_joined k (before change tables) id log

undone_none : (k : ℕ) (tables : List Stored) → undone k tables [] ≡ tables
undone_none zero tables = refl
undone_none (suc k) tables = refl

-- taking back in two steps
pub undone_sum : (j k : ℕ) (tables : List Stored) (log : List Change) → undone (j + k) tables log ≡ undone k (undone j tables log) (drop j log)
undone_sum zero k tables log = ap (λ n. undone n tables log) (let e : 0 + k ≡ k = omega arith in e)
undone_sum (suc j) k tables [] = undone_none (suc j + k) tables ∙ sym (undone_none k tables)
undone_sum (suc j) k tables (change ∷ log) =
    ap (λ n. undone n tables (change ∷ log)) (let e : suc j + k ≡ suc (j + k) = omega arith in e) ∙ undone_sum j k (before change tables) log

pub undone_dated : (k moment : ℕ) (tables : List Stored) (log : List Change) → ((t s : ℕ) → IsHistory moment (get_or (slots_at t tables) s [])) → (t s : ℕ) → IsHistory moment (get_or (slots_at t (undone k tables log)) s [])
undone_dated zero moment tables log h = h
undone_dated (suc k) moment tables [] h = h
undone_dated (suc k) moment tables (change ∷ log) h =
    undone_dated k moment (before change tables) log (in_place_keeps (λ t s. IsHistory moment) (taken_back change.deed) tables change.place.table change.place.slot (IsHistory-taken_back change.deed moment (versions_in change.place tables) (h change.place.table change.place.slot)) h)

pub undone_position : (k : ℕ) (tables : List Stored) (log : List Change) (id : ℕ) → position_of id (undone k tables log) ≡ position_of id tables
undone_position zero tables log id = refl
undone_position (suc k) tables [] id = refl
undone_position (suc k) tables (change ∷ log) id = undone_position k (before change tables) log id ∙ position_of-in_place (taken_back change.deed) tables change.place id

-- what is seen of a change that is taken back
pub rows_before : (f : List Version → List Version) (tables : List Stored) (place : Place) (t snap : ℕ) → shown_in (f (versions_in place tables)) snap ≡ shown_in (versions_in place tables) snap → rows_in 0 (slots_at t (in_place place f tables)) snap ≡ rows_in 0 (slots_at t tables) snap
rows_before f tables place t snap same = go (cases_eq t place.table)
  where
    go : (t ≡ place.table) ⊎ (t ≡ place.table → ⊥) → rows_in 0 (slots_at t (in_place place f tables)) snap ≡ rows_in 0 (slots_at t tables) snap
    go (inl e) =
        subst (λ n. rows_in 0 (slots_at n (in_place place f tables)) snap ≡ rows_in 0 (slots_at n tables) snap) (sym e)
        (ap (λ slots. rows_in 0 slots snap) (slots_at-in_place f tables place.table place.slot) ∙ rows_in-changed f (slots_at place.table tables) place.slot 0 snap same)
    go (inr ne) = ap (λ slots. rows_in 0 slots snap) (slots_at-in_place_other f tables place t ne)

All-first : {A : Type 0} (P : A → Type 0) (x : A) (xs : List A) → All P (x ∷ xs) → P x
All-first P x xs h = h 0 x (omega arith)

All-rest : {A : Type 0} (P : A → Type 0) (x : A) (xs : List A) → All P (x ∷ xs) → All P xs
All-rest P x xs h = λ k d lt. h (suc k) d (omega arith)

-- snapshots older than the changes that are taken back see no difference
pub undone_rows : (k moment since snap : ℕ) (tables : List Stored) (log : List Change) → IsLog moment tables log → All (λ (change : Change). since ≤ change.moment) (take k log) → snap < since → (t : ℕ) → rows_in 0 (slots_at t (undone k tables log)) snap ≡ rows_in 0 (slots_at t tables) snap
undone_rows zero moment since snap tables log h later lt t = refl
undone_rows (suc k) moment since snap tables [] h later lt t = refl
undone_rows (suc k) moment since snap tables (change ∷ log) h later lt t =
    let first : since ≤ change.moment = All-first (λ (change : Change). since ≤ change.moment) change (take k log) later in
    undone_rows k change.moment since snap (before change tables) log h.3 (All-rest (λ (change : Change). since ≤ change.moment) change (take k log) later) lt t
    ∙ rows_before (taken_back change.deed) tables change.place t snap (h.1.older snap (omega arith))

-- each change is the last one of its slot
pub last_inserted : (row : List Value) (moment : ℕ) (place : Place) (versions : List Version) → versions ≡ with_version row moment [] → IsLast (record { place = place; deed = Inserted; moment = moment }) versions
last_inserted row moment place versions e =
    subst (IsLast (record { place = place; deed = Inserted; moment = moment })) (sym e)
    (record { after = refl; earlier = refl; older = λ snap lt. sym (shown_in_new row moment snap [] lt) })

pub last_superseded : (row : List Value) (moment : ℕ) (place : Place) (old versions : List Version) → is_live old ≡ true → versions ≡ superseded row moment old → IsLast (record { place = place; deed = Superseded; moment = moment }) versions
last_superseded row moment place old versions live e =
    subst (IsLast (record { place = place; deed = Superseded; moment = moment })) (sym e)
    (record {
      after = refl;
      earlier = ap is_live (taken_back_ended moment old live) ∙ live;
      older = λ snap lt. ap (λ v. shown_in v snap) (taken_back_ended moment old live) ∙ sym (shown_in_new row moment snap (ended moment old) lt ∙ shown_in_ended moment snap old live lt);
    })

pub last_ended : (moment : ℕ) (place : Place) (old versions : List Version) → is_live old ≡ true → versions ≡ ended moment old → IsLast (record { place = place; deed = Ended; moment = moment }) versions
last_ended moment place old versions live e =
    subst (IsLast (record { place = place; deed = Ended; moment = moment })) (sym e)
    (record {
      after = not_live old;
      earlier = ap is_live (taken_back_ended moment old live) ∙ live;
      older = λ snap lt. ap (λ v. shown_in v snap) (taken_back_ended moment old live) ∙ sym (shown_in_ended moment snap old live lt);
    })
  where
    not_live : (old : List Version) → is_live (ended moment old) ≡ false
    not_live [] = refl
    not_live (version ∷ versions) = refl
