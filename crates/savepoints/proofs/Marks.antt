-- The copies of the values that the log keeps, and going back among them.
use Rattle.std.proofs.Common.{◌≡◌, ℕ, ◌+◌, ◌-◌, ◌≤◌, suc, zero, List, [], ◌∷◌, length, drop, refl, sym, ap, ◌∙◌, arith}
use Rattle.std.proofs.lemmas.List.{drop-drop, length-drop}
use Rattle.savepoints.specs.declared.held.Replaced.{Replaced}
use Rattle.savepoints.specs.Values.{Both, undone}
use Rattle.savepoints.specs.Settings.{SettingsState, copies, earlier, back, at_mark, Stands, KeepsMark}

pub length_of_copies : (now : Both) (log : List Replaced) → length (copies now log) ≡ length log
length_of_copies now [] = refl
length_of_copies now (replaced ∷ log) = ap suc (length_of_copies (undone replaced now) log)

earlier_none : (n : ℕ) (now : Both) → earlier n now [] ≡ now
earlier_none zero now = refl
earlier_none (suc n) now = refl

-- going back in two steps
pub earlier_sum : (n m : ℕ) (now : Both) (past : List Both) → earlier (n + m) now past ≡ earlier m (earlier n now past) (drop n past)
earlier_sum zero m now past = ap (λ k. earlier k now past) (let e : 0 + m ≡ m = omega arith in e)
earlier_sum (suc n) m now [] = earlier_none (suc n + m) now ∙ sym (earlier_none m now)
earlier_sum (suc n) m now (copy ∷ past) =
    ap (λ k. earlier k now (copy ∷ past)) (let e : suc n + m ≡ suc (n + m) = omega arith in e) ∙ earlier_sum n m copy past

-- one change further back
pub back_more : (count : ℕ) (state : SettingsState) → back 1 (back count state) ≡ back (count + 1) state
back_more count state =
    ap (λ (b : Both). record state { values = b; past = drop 1 (drop count state.past) }) (sym (earlier_sum count 1 state.values state.past))
    ∙ ap (λ (past : List Both). record state { values = earlier (count + 1) state.values state.past; past = past }) (drop-drop 1 count state.past)

-- a mark that is no later than the one gone back to
pub back_marks : (state : SettingsState) (mark earliest : ℕ) → Stands state mark → earliest ≤ mark → KeepsMark state (at_mark state mark) earliest
back_marks state mark earliest stands le =
    let count = length state.past - mark in
    let more = length (drop count state.past) - earliest in
    let all : count + more ≡ length state.past - earliest = omega (arith, length-drop count state.past) in
    record {
      stands = omega (arith, length-drop count state.past);
      names = sym (earlier_sum count more state.values state.past) ∙ ap (λ k. earlier k state.values state.past) all;
    }
