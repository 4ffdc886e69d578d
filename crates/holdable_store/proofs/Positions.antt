-- What a buffer keeps at its positions after some of them were dropped.
use Rattle.std.proofs.Common.{◌≡◌, ℕ, zero, suc, ◌+◌, ◌-◌, ◌<◌, ◌≤◌, None, if◌then◌else◌, ltb, min, List, [], ◌∷◌, length, drop, refl, ap, ◌∙◌, arith, ⊎_elim}
use Rattle.std.specs.List.{slice_get}
use Rattle.std.proofs.lemmas.Bool.{cases_lt, lt-ltb, le-ltb}
use Rattle.std.proofs.lemmas.List.{drop-drop}
use Rattle.holdable_store.specs.Buffer.{Buffer}
use Rattle.holdable_store.specs.Buffers.{outcome_at, without_before}

-- one element fewer
pub drop_one_more : {X : Type 0} (xs : List X) (n : ℕ) → drop 1 (drop n xs) ≡ drop (n + 1) xs
drop_one_more xs n = drop-drop 1 n xs

slice_get-drop : {X : Type 0} (xs : List X) (n i : ℕ) → slice_get (drop n xs) i ≡ slice_get xs (n + i)
slice_get-drop [] zero i = refl
slice_get-drop [] (suc n) i = refl
slice_get-drop (x ∷ xs) zero i = let same : 0 + i ≡ i = omega arith in rw same refl
slice_get-drop (x ∷ xs) (suc n) i = let same : suc n + i ≡ suc (n + i) = omega arith in rw same (slice_get-drop xs n i)

slice_get-past : {X : Type 0} (xs : List X) (i : ℕ) → length xs ≤ i → slice_get xs i ≡ None
slice_get-past [] i past = refl
slice_get-past (x ∷ xs) zero past = absurd (omega arith)
slice_get-past (x ∷ xs) (suc i) past = slice_get-past xs i (omega arith)

-- the positions before the given one are dropped, and no other
outcome_at-without_before : (buffer : Buffer) (position p : ℕ) → outcome_at (without_before position buffer) p ≡ (if ltb p position then None else outcome_at buffer p)
outcome_at-without_before buffer position p =
    ⊎_elim
    (λ early. rw (lt-ltb p position early) (before early))
    (λ late. rw (le-ltb p position late) (from late))
    (cases_lt p position)
  where
    before : p < position → outcome_at (without_before position buffer) p ≡ None
    before early = ⊎_elim
        (λ lt. rw (lt-ltb p (buffer.first + min (position - buffer.first) (length buffer.kept)) lt) refl)
        (λ le.
        rw (le-ltb p (buffer.first + min (position - buffer.first) (length buffer.kept)) le)
        (slice_get-drop buffer.kept _ _ ∙ slice_get-past buffer.kept _ (omega arith)))
        (cases_lt p (buffer.first + min (position - buffer.first) (length buffer.kept)))

    from : position ≤ p → outcome_at (without_before position buffer) p ≡ outcome_at buffer p
    from late = ⊎_elim
        (λ lt.
        let sooner : p < buffer.first + min (position - buffer.first) (length buffer.kept) = omega arith in
        rw (lt-ltb p buffer.first lt) (rw (lt-ltb p _ sooner) refl))
        (λ le.
        let later : buffer.first + min (position - buffer.first) (length buffer.kept) ≤ p = omega arith in
        let same : min (position - buffer.first) (length buffer.kept) + (p - (buffer.first + min (position - buffer.first) (length buffer.kept))) ≡ p - buffer.first = omega arith in
        rw (le-ltb p buffer.first le) (rw (le-ltb p _ later) (slice_get-drop buffer.kept _ _ ∙ ap (slice_get buffer.kept) same)))
        (cases_lt p buffer.first)

pub kept_after : (new old : Buffer) (position : ℕ) → new ≡ without_before position old → (p : ℕ) → outcome_at new p ≡ (if ltb p position then None else outcome_at old p)
kept_after new old position e p = ap (λ (buffer : Buffer). outcome_at buffer p) e ∙ outcome_at-without_before old position p
