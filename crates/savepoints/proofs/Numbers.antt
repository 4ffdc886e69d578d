-- What a parsed number says of the truth value that it means.
use Rattle.std.proofs.Common.{◌≡◌, ℕ, ℤ, pos, negsuc, suc, zero, Bool, true, false, Option, None, Some, Ok, Err, List, cond, refl, ap, arith}
use Rattle.std.proofs.lemmas.Bool.Decides.{nat_tests}
use Rattle.q_base.specs.declared.errors.SqlError.{SqlError}
use Rattle.q_value.specs.declared.value.SqlType.TheVariants as kind
use Rattle.q_value.specs.declared.value.Value.{Value}
use Rattle.q_value.specs.declared.value.Value.TheVariants as value
use Rattle.q_value.specs.Parse.{integer_parsed, or_error, out_of_range}
use Rattle.q_value.specs.Values.{number_of, is_within}
use Rattle.savepoints.specs.Given.{number_truth}

-- the number that was parsed is the value's
pub number_of_parsed : (text : List ℕ) (number : Option ℤ) (parsed : Value) → integer_parsed kind.Int8 text number ≡ Ok parsed → number_of parsed ≡ number
number_of_parsed text None parsed e = cc
number_of_parsed text (Some number) parsed e = go (is_within (negsuc 9223372036854775807) (pos 9223372036854775807) number) e
  where
    go : (b : Bool) → or_error (out_of_range kind.Int8 text) (cond b (Some (value.Int8 number)) None) ≡ Ok parsed → number_of parsed ≡ Some number
    go true e = let h : parsed ≡ value.Int8 number = cc in ap number_of h
    go false e = cc

-- a number above 1 means neither
above_one : (n : ℕ) → number_truth (Some (pos (suc (suc n)))) ≡ None
above_one n = grind (arith, nat_tests)

-- a number that is out of range is neither 0 nor 1
pub no_truth : (text : List ℕ) (number : Option ℤ) (error : SqlError) → integer_parsed kind.Int8 text number ≡ Err error → number_truth number ≡ None
no_truth text None error e = refl
no_truth text (Some (pos zero)) error e = cc
no_truth text (Some (pos (suc zero))) error e = cc
no_truth text (Some (pos (suc (suc n)))) error e = above_one n
no_truth text (Some (negsuc n)) error e = refl
