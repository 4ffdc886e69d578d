use Rattle.std.proofs.Common.{◌≡◌, ℕ, ◌+◌, ◌<◌, ◌≤◌, Bool, true, false, cond, not, eqb, ltb, Some, None, List, [], ◌∷◌, length, get_or, suc, zero, refl, sym, ap, ◌∙◌, inl, inr, arith}
use Rattle.std.specs.Prelude.{remove, position, ◌⊎◌}
use Rattle.std.specs.List.{position_or_len}
use Rattle.std.proofs.lemmas.Bool.{cases_lt, lt-ltb}
use Rattle.std.proofs.lemmas.List.Quantifiers.{position-Some}
use Rattle.row_versions.specs.State.{unpinned}

-- the first of the snapshot removed
remove_first : (pins : List ℕ) (moment at : ℕ) → at < length pins → eqb (get_or pins at 0) moment ≡ true → ((k : ℕ) → k < at → eqb (get_or pins k 0) moment ≡ false) → remove pins at ≡ unpinned moment pins
remove_first [] moment at lt here before = absurd (omega arith)
remove_first (pin ∷ pins) moment zero lt here before = sym (ap (λ b. cond b pins (pin ∷ unpinned moment pins)) here)
remove_first (pin ∷ pins) moment (suc at) lt here before =
    ap (λ ps. pin ∷ ps) (remove_first pins moment at (omega arith) here (λ k le. before (suc k) (omega arith))) ∙ sym (ap (λ b. cond b pins (pin ∷ unpinned moment pins)) (before 0 (omega arith)))

pub removed_pin : (pins : List ℕ) (moment at : ℕ) → position (λ pin. eqb pin moment) pins ≡ Some at → remove pins at ≡ unpinned moment pins
removed_pin pins moment at e =
    let h = position-Some (λ pin. eqb pin moment) pins at 0 e in
    remove_first pins moment at h.0 h.1 h.2

-- no pin of the snapshot to remove
unheld : (pins : List ℕ) (moment : ℕ) → length pins ≤ position_or_len (λ pin. eqb pin moment) pins → unpinned moment pins ≡ pins
unheld [] moment h = refl
unheld (pin ∷ pins) moment h = go (eqb pin moment) refl (unheld pins moment)
  where
    go : (b : Bool) → eqb pin moment ≡ b → (length pins ≤ position_or_len (λ p. eqb p moment) pins → unpinned moment pins ≡ pins) → cond (eqb pin moment) pins (pin ∷ unpinned moment pins) ≡ pin ∷ pins
    go true e more =
        let zero_is : position_or_len (λ p. eqb p moment) (pin ∷ pins) ≡ 0 = ap (λ b. cond (not b) (1 + position_or_len (λ p. eqb p moment) pins) 0) e in
        absurd (omega (arith, zero_is))
    go false e more =
        let more_is : position_or_len (λ p. eqb p moment) (pin ∷ pins) ≡ 1 + position_or_len (λ p. eqb p moment) pins = ap (λ b. cond (not b) (1 + position_or_len (λ p. eqb p moment) pins) 0) e in
        ap (λ b. cond b pins (pin ∷ unpinned moment pins)) e ∙ ap (λ ps. pin ∷ ps) (more (omega (arith, more_is)))

none_test : (n k : ℕ) → cond (ltb n k) (Some n) None ≡ None → k ≤ n
none_test n k e = go (cases_lt n k)
  where
    go : (n < k) ⊎ (k ≤ n) → k ≤ n
    go (inl lt) = absurd (let h : Some n ≡ None = sym (ap (λ b. cond b (Some n) None) (lt-ltb n k lt)) ∙ e in cc)
    go (inr le) = le

pub removed_none : (pins : List ℕ) (moment : ℕ) → position (λ pin. eqb pin moment) pins ≡ None → unpinned moment pins ≡ pins
removed_none pins moment e = unheld pins moment (none_test (position_or_len (λ pin. eqb pin moment) pins) (length pins) e)
