use Rattle.std.proofs.Common.{◌≡◌, ℕ, ◌<◌, ◌≤◌, true, false, cond, leb, Option, Some, None, List, [], ◌∷◌, drop, refl, sym, ap, ◌∙◌, arith}
use Rattle.std.specs.Prelude.{◌&&◌, IfSome, IsSomeAnd, is_some, is_none}
use Rattle.std.proofs.lemmas.Bool.{lt-ltb, le-ltb, le-leb, lt-leb, and_left, and_right}
use Rattle.q_value.specs.declared.value.Value.{Value}
use Rattle.row_versions.specs.declared.slot.Version.{Version}
use Rattle.row_versions.specs.declared.slot.Deed.{Deed}
use Rattle.row_versions.specs.declared.slot.Deed.TheVariants.{Inserted, Superseded, Ended}
use Rattle.row_versions.specs.Versions.{is_open, is_shown, shown_in, with_version, with_end, superseded, ended, taken_back, is_settled}
use Rattle.row_versions.specs.Stored.{is_live}
use Rattle.row_versions.specs.Sound.{IsPast, ArePast, IsHistory}

-- a version with an end by then is not open
is_open_past : (until : Option ℕ) (moment : ℕ) → IsSomeAnd until (λ u. u ≤ moment) → is_open until moment ≡ false
is_open_past None moment h = absurd h
is_open_past (Some u) moment h = le-ltb moment u h

is_shown_past : (moment : ℕ) (version : Version) → IsPast moment version → is_shown version moment ≡ false
is_shown_past moment version past = and_right (leb version.from moment) (is_open version.until moment) (is_open_past version.until moment past.ended)

-- no version that is past is shown
pub shown_in_past : (moment : ℕ) (versions : List Version) → ArePast moment versions → shown_in versions moment ≡ None
shown_in_past moment [] past = refl
shown_in_past moment (version ∷ versions) past =
    ap (λ b. cond b (Some version.row) (shown_in versions moment)) (is_shown_past moment version past.0) ∙ shown_in_past moment versions past.1

is_open_newest : (until : Option ℕ) (moment : ℕ) → IfSome until (λ u. u ≤ moment) → is_open until moment ≡ is_none until
is_open_newest None moment h = refl
is_open_newest (Some u) moment h = le-ltb moment u h

-- what the newest snapshot shows is the newest version, where it has no end
pub is_shown_newest : (moment : ℕ) (version : Version) → version.from ≤ moment → IfSome version.until (λ u. u ≤ moment) → is_shown version moment ≡ is_none version.until
is_shown_newest moment version made ends = ap (λ b. b && is_open version.until moment) (le-leb version.from moment made) ∙ is_open_newest version.until moment ends

abbrev pub newest_row : List Version → Option (List Value)
newest_row [] = None
newest_row (version ∷ versions) = cond (is_none version.until) (Some version.row) None

pub shown_in_newest : (moment : ℕ) (versions : List Version) → IsHistory moment versions → shown_in versions moment ≡ newest_row versions
shown_in_newest moment [] h = refl
shown_in_newest moment (version ∷ versions) h =
    ap (λ b. cond b (Some version.row) (shown_in versions moment)) (is_shown_newest moment version h.0 h.1) ∙ ap (cond (is_none version.until) (Some version.row)) (shown_in_past moment versions h.2)

is_some_newest : (versions : List Version) → is_some (newest_row versions) ≡ is_live versions
is_some_newest [] = refl
is_some_newest (version ∷ versions) = elim (is_none version.until) as (λ b. is_some (cond b (Some version.row) None) ≡ b) [ true ↦ refl | false ↦ refl ]

-- the newest snapshot shows a row exactly where one is live
pub is_some_shown : (moment : ℕ) (versions : List Version) → IsHistory moment versions → is_some (shown_in versions moment) ≡ is_live versions
is_some_shown moment versions h = ap is_some (shown_in_newest moment versions h) ∙ is_some_newest versions

-- a history stays one as moments go by
ends_later : (until : Option ℕ) (moment later : ℕ) → moment ≤ later → IfSome until (λ u. u ≤ moment) → IfSome until (λ u. u ≤ later)
ends_later None moment later le h = tt
ends_later (Some u) moment later le h = omega arith

ended_later : (until : Option ℕ) (moment later : ℕ) → moment ≤ later → IsSomeAnd until (λ u. u ≤ moment) → IsSomeAnd until (λ u. u ≤ later)
ended_later None moment later le h = absurd h
ended_later (Some u) moment later le h = omega arith

past_later : (moment later : ℕ) (versions : List Version) → moment ≤ later → ArePast moment versions → ArePast later versions
past_later moment later [] le h = tt
past_later moment later (version ∷ versions) le h = (record { made = omega (arith, h.0.made); ended = ended_later version.until moment later le h.0.ended }, past_later moment later versions le h.1)

pub IsHistory-later : (moment later : ℕ) (versions : List Version) → moment ≤ later → IsHistory moment versions → IsHistory later versions
IsHistory-later moment later [] le h = tt
IsHistory-later moment later (version ∷ versions) le h = (omega (arith, h.0), ends_later version.until moment later le h.1, past_later moment later versions le h.2)

-- a change makes a history of one
pub IsHistory-ended : (moment : ℕ) (versions : List Version) → IsHistory moment versions → IsHistory moment (ended moment versions)
IsHistory-ended moment [] h = tt
IsHistory-ended moment (version ∷ versions) h = (h.0, omega arith, h.2)

all_past : (moment : ℕ) (versions : List Version) → IsHistory moment versions → ArePast moment (ended moment versions)
all_past moment [] h = tt
all_past moment (version ∷ versions) h = (record { made = h.0; ended = omega arith }, h.2)

pub IsHistory-superseded : (row : List Value) (moment : ℕ) (versions : List Version) → IsHistory moment versions → IsHistory moment (superseded row moment versions)
IsHistory-superseded row moment versions h = (omega arith, tt, all_past moment versions h)

ends_of : (until : Option ℕ) (moment : ℕ) → IsSomeAnd until (λ u. u ≤ moment) → IfSome until (λ u. u ≤ moment)
ends_of None moment h = absurd h
ends_of (Some u) moment h = h

from_past : (moment : ℕ) (versions : List Version) → ArePast moment versions → IsHistory moment versions
from_past moment [] h = tt
from_past moment (version ∷ versions) h = (h.0.made, ends_of version.until moment h.0.ended, h.1)

IsHistory-drop : (moment : ℕ) (versions : List Version) → IsHistory moment versions → IsHistory moment (drop 1 versions)
IsHistory-drop moment [] h = tt
IsHistory-drop moment (version ∷ versions) h = from_past moment versions h.2

IsHistory-opened : (moment : ℕ) (versions : List Version) → IsHistory moment versions → IsHistory moment (with_end None versions)
IsHistory-opened moment [] h = tt
IsHistory-opened moment (version ∷ versions) h = (h.0, tt, h.2)

pub IsHistory-taken_back : (deed : Deed) (moment : ℕ) (versions : List Version) → IsHistory moment versions → IsHistory moment (taken_back deed versions)
IsHistory-taken_back Inserted moment versions h = IsHistory-drop moment versions h
IsHistory-taken_back Superseded moment versions h = IsHistory-opened moment (drop 1 versions) (IsHistory-drop moment versions h)
IsHistory-taken_back Ended moment versions h = IsHistory-opened moment versions h

pub taken_back_none : (deed : Deed) → taken_back deed [] ≡ []
taken_back_none Inserted = refl
taken_back_none Superseded = refl
taken_back_none Ended = refl

-- a settled slot stays so where a change is taken back
pub settled-taken_back : (deed : Deed) (versions : List Version) → is_settled versions ≡ true → is_settled (taken_back deed versions) ≡ true
settled-taken_back Inserted [] h = refl
settled-taken_back Inserted (version ∷ []) h = refl
settled-taken_back Inserted (version ∷ next ∷ versions) h = cc
settled-taken_back Superseded [] h = refl
settled-taken_back Superseded (version ∷ []) h = refl
settled-taken_back Superseded (version ∷ next ∷ versions) h = cc
settled-taken_back Ended [] h = refl
settled-taken_back Ended (version ∷ []) h = refl
settled-taken_back Ended (version ∷ next ∷ versions) h = cc

-- a version that is made now is shown by no older snapshot
is_shown_new : (row : List Value) (until : Option ℕ) (moment snap : ℕ) → snap < moment → is_shown (record { row = row; from = moment; until = until }) snap ≡ false
is_shown_new row until moment snap lt = and_left (leb moment snap) (is_open until snap) (lt-leb moment snap lt)

pub shown_in_new : (row : List Value) (moment snap : ℕ) (versions : List Version) → snap < moment → shown_in (with_version row moment versions) snap ≡ shown_in versions snap
shown_in_new row moment snap versions lt = ap (λ b. cond b (Some row) (shown_in versions snap)) (is_shown_new row None moment snap lt)

is_open_until : (until : Option ℕ) (moment snap : ℕ) → until ≡ None → snap < moment → is_open (Some moment) snap ≡ is_open until snap
is_open_until until moment snap endless lt = lt-ltb snap moment lt ∙ sym (ap (λ u. is_open u snap) endless)

-- one that ends now is shown by older snapshots as before
pub shown_in_ended : (moment snap : ℕ) (versions : List Version) → is_live versions ≡ true → snap < moment → shown_in (ended moment versions) snap ≡ shown_in versions snap
shown_in_ended moment snap [] live lt = refl
shown_in_ended moment snap (version ∷ versions) live lt =
    ap (λ b. cond (leb version.from snap && b) (Some version.row) (shown_in versions snap)) (is_open_until version.until moment snap (none_of version.until live) lt)
  where
    none_of : (until : Option ℕ) → is_none until ≡ true → until ≡ None
    none_of None e = refl
    none_of (Some u) e = cc

-- what is taken back is as before
pub taken_back_ended : (moment : ℕ) (versions : List Version) → is_live versions ≡ true → taken_back Ended (ended moment versions) ≡ versions
taken_back_ended moment [] live = refl
taken_back_ended moment (version ∷ versions) live = ap (λ (u : Option ℕ). record version { until = u } ∷ versions) (sym (none_of version.until live))
  where
    none_of : (until : Option ℕ) → is_none until ≡ true → until ≡ None
    none_of None e = refl
    none_of (Some u) e = cc
