use Rattle.std.proofs.Common.{◌≡◌, ℕ, ◌-◌, ◌+◌, ◌<◌, ◌≤◌, Bool, List, length, take, drop, get_or, sym, ap, ◌∙◌, subst, arith}
use Rattle.std.specs.Prelude.{◌↔◌, IsTrue, All, reverse}
use Rattle.std.proofs.lemmas.List.{get_or-reverse, get_or-take, get_or-drop, length-reverse, length-take, length-drop, take_rest}
use Rattle.row_versions.specs.declared.heaps.Change.{Change}
use Rattle.row_versions.specs.Marks.{Mark}
use Rattle.row_versions.specs.State.{State, Stands}

-- what holds of the elements from a place on holds of as many of the first ones the other way round
pub all_turned : {A : Type 0} (P : A → Type 0) (k : ℕ) (xs : List A) → k ≤ length xs → All P (drop k xs) → All P (take (length xs - k) (reverse xs))
all_turned P k xs le all i d lt =
    let short : i < length xs - k = omega (arith, length-take (length xs - k) (reverse xs), length-reverse xs) in
    let n = length xs - 1 - i - k in
    let same : k + n ≡ length xs - 1 - i = omega arith in
    subst P (sym (get_or-take (length xs - k) (reverse xs) i d short ∙ get_or-reverse xs i d (omega arith) ∙ ap (λ j. get_or xs j d) (sym same) ∙ sym (get_or-drop k xs n d)))
    (all n d (omega (arith, length-drop k xs)))

pub all_returned : {A : Type 0} (P : A → Type 0) (k : ℕ) (xs : List A) → k ≤ length xs → All P (take (length xs - k) (reverse xs)) → All P (drop k xs)
all_returned P k xs le all i d lt =
    let short : i < length xs - k = omega (arith, length-drop k xs) in
    let n = length xs - k - 1 - i in
    let same : length xs - 1 - n ≡ k + i = omega arith in
    subst P (get_or-take (length xs - k) (reverse xs) n d (omega arith) ∙ get_or-reverse xs n d (omega arith) ∙ ap (λ j. get_or xs j d) same ∙ sym (get_or-drop k xs i d))
    (all n d (omega (arith, length-take (length xs - k) (reverse xs), length-reverse xs)))

-- the changes since a mark, in the order in which they were made
pub stands_by : (b : Bool) (state : State) (mark : Mark) (items : List Change) → reverse items ≡ state.log → mark.changes ≤ length items → mark.moment ≤ state.newest → (IsTrue b ↔ All (λ (change : Change). mark.moment ≤ change.moment) (take (length items - mark.changes) (drop mark.changes items))) → IsTrue b ↔ Stands state mark
stands_by b state mark items logged le made tells =
    let same = take_rest items mark.changes in
    let count : length state.log ≡ length items = ap length (sym logged) ∙ length-reverse items in
    let P : Change → Type 0 = λ change. mark.moment ≤ change.moment in
    let at : take (length items - mark.changes) (reverse items) ≡ take (length state.log - mark.changes) state.log = ap (λ n. take (n - mark.changes) (reverse items)) (sym count) ∙ ap (λ log. take (length state.log - mark.changes) log) logged in (
      (λ t. record { within = omega (arith, count); made = made; later = subst (All P) at (all_turned P mark.changes items le (subst (All P) same (tells.0 t))) }),
      (λ s. tells.1 (subst (All P) (sym same) (all_returned P mark.changes items le (subst (All P) (sym at) s.later)))),
    )
