-- The first of the rows that LIMIT leaves, and those that OFFSET leaves out.
use Rattle.std.proofs.Common.{◌≡◌, ℕ, ◌+◌, ◌-◌, ◌<◌, Option, None, Some, Result, Ok, Err, [], ◌∷◌, take, suc, zero, refl, ap, ◌∙◌, subst, sym, arith}
use Rattle.q_scalar.specs.declared.eval.EvalStop.{EvalStop}
use Rattle.q_scalar.specs.declared.eval.EvalStop.TheVariants.{Fault, NoMemory}
use Rattle.executor.specs.declared.found.Found.{Found}
use Rattle.executor.specs.Cuts.{skipped}
use Rattle.executor.specs.Lists.{Rows}
use Rattle.executor.specs.Yields.{YieldsFirst}

none_of : (n : ℕ) → (let none : Rows = [] in take n none ≡ none)
none_of zero = refl
none_of (suc n) = refl

first_of : (m : ℕ) (rows new : Rows) (result : Result (Option Found) EvalStop) → YieldsFirst rows result new → YieldsFirst (take (suc m) rows) result (take m new)
first_of m rows new (Ok None) is = ap (take (suc m)) is
first_of m rows new (Ok (Some found)) is = ap (take (suc m)) is
first_of m rows new (Err (Fault code)) is = ap (take (suc m)) is ∙ ap (λ (more : Rows). Err code ∷ more) (none_of m)
first_of m rows new (Err NoMemory) is = tt

pub limited_first : (n m : ℕ) (rows new : Rows) (result : Result (Option Found) EvalStop) → n ≡ suc m → YieldsFirst rows result new → YieldsFirst (take n rows) result (take m new)
limited_first n m rows new result counts given =
    subst (λ (k : ℕ). YieldsFirst (take k rows) result (take m new)) (sym counts) (first_of m rows new result given)

pub one_skipped : (skip k : ℕ) (found : Found) (old new : Rows) → k < skip → old ≡ Ok found ∷ new → skipped (skip - (k + 1)) new ≡ skipped (skip - k) old
one_skipped skip k found old new below is =
    let more : skip - k ≡ suc (skip - (k + 1)) = omega arith in
    ap (λ (rows : Rows). skipped (suc (skip - (k + 1))) rows) (sym is) ∙ ap (λ (n : ℕ). skipped n old) (sym more)
