use Rattle.std.proofs.Common.{◌≡◌, ℕ, ◌+◌, ◌-◌, ◌*◌, ◌≤◌, Bool, true, false, cond, nat_le, List, [], ◌∷◌, None, Some, refl, sym, ◌∙◌, arith, option_and_then}
use Rattle.std.proofs.lemmas.Bool.{leb-true}
use Rattle.std.proofs.lemmas.Bool.Decides.{nat_tests}
use Rattle.sql_reader_session.specs.Numbers.{number_of, decimal_after, within, number_after}
use Rattle.sql_reader_session.proofs.numbers.number_of.Goals as goal

decimal_after-ge : (n : ℕ) (digits : List ℕ) → n ≤ decimal_after n digits
decimal_after-ge n [] = omega arith
decimal_after-ge n (d ∷ digits) = omega (arith, decimal_after-ge (n * 10 + (d - 48)) digits)

within-of : (n : ℕ) → n ≤ 2147483647 → within n ≡ Some n
within-of n h = grind (arith, nat_tests)

within-none : (n m : ℕ) → n ≤ m → nat_le n 2147483647 ≡ false → None ≡ within m
within-none n m h e = grind (arith, nat_tests)

by_digits : (n : ℕ) (digits : List ℕ) → n ≤ 2147483647 → number_after n digits ≡ within (decimal_after n digits)
by_digits n [] h = sym (within-of n h)
by_digits n (d ∷ digits) h =
    by (nat_le (n * 10 + (d - 48)) 2147483647) refl (λ e. by_digits (n * 10 + (d - 48)) digits (leb-true _ _ e))
  where
    by : (b : Bool) → nat_le (n * 10 + (d - 48)) 2147483647 ≡ b
        → (nat_le (n * 10 + (d - 48)) 2147483647 ≡ true → number_after (n * 10 + (d - 48)) digits ≡ within (decimal_after (n * 10 + (d - 48)) digits))
        → option_and_then (λ m. number_after m digits) (cond b (Some (n * 10 + (d - 48))) None) ≡ within (decimal_after (n * 10 + (d - 48)) digits)
    by true e rest = rest e
    by false e rest =
        within-none (n * 10 + (d - 48)) (decimal_after (n * 10 + (d - 48)) digits) (decimal_after-ge (n * 10 + (d - 48)) digits) e

pub returns-clause-number : goal.returns-clause-number
unfolding number_of
returns-clause-number c = c.read_digits.ensures.number ∙ rw c.as_bytes.ensures.value (by_digits 0 c.args.digits.now (omega arith))
