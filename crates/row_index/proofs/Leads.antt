-- Of two keys the one of the lesser lead comes first.
use Rattle.std.proofs.Common.{◌≡◌, suc, ◌-◌, ℤ, pos, negsuc, Some, Ordering, Less, Equal, Greater, List, [], ◌∷◌, length, refl, sym, ap, ◌∙◌, subst, arith}
use lib.Signed.{◌<ℤ◌, ◌≤ℤ◌}
use mir.Syntax.{w64}
use mir.Val.{SFits}
use Rattle.std.proofs.lemmas.Cmp.{int_cmp_total, int_ranked}
use Rattle.std.proofs.lemmas.Int.{ints}
use Rattle.std.specs.List.{slice_get}
use Rattle.std.specs.Ordering.{int_cmp, ordering_reverse}
use Rattle.std.specs.Cmp.{IsTotalOrder}
use Rattle.q_value.specs.declared.value.Value.{Value}
use Rattle.q_value.specs.declared.value.Value.TheVariants as value
use Rattle.q_value.specs.Values.{number_of}
use Rattle.row_index.specs.declared.entries.IndexPlace.{IndexPlace}
use Rattle.row_index.specs.Order.{value_cmp, keys_cmp, entry_cmp}
use Rattle.row_index.specs.Leads.{key_lead, lead_of_last, number_or_most}

abbrev least : ℤ
least = negsuc 9223372036854775807

abbrev most : ℤ
most = pos 9223372036854775807

past_most : (n : ℤ) → int_cmp most n ≡ Less → n ≤ℤ most → ⊥
past_most n lt le =
    let less : most <ℤ n = int_ranked most n Less (sym lt) in
    omega (arith, ints)

below_least : (n : ℤ) → int_cmp n least ≡ Less → least ≤ℤ n → ⊥
below_least n lt le =
    let less : n <ℤ least = int_ranked n least Less (sym lt) in
    omega (arith, ints)

values_led : (x y : Value) → int_cmp (number_or_most (number_of x)) (number_or_most (number_of y)) ≡ Less → number_or_most (number_of y) ≤ℤ most → value_cmp x y ≡ Less
values_led (value.Int2 m) value.Null lt le = refl
values_led (value.Int2 m) y lt le = cc
values_led (value.Int4 m) value.Null lt le = refl
values_led (value.Int4 m) y lt le = cc
values_led (value.Int8 m) value.Null lt le = refl
values_led (value.Int8 m) y lt le = cc
values_led x y lt le = absurd (past_most _ lt le)

keys_led : (xs ys : List Value) → int_cmp (key_lead xs) (key_lead ys) ≡ Less → least ≤ℤ key_lead xs → key_lead ys ≤ℤ most → keys_cmp xs ys ≡ Less
keys_led [] [] lt low high = absurd (below_least _ lt low)
keys_led [] (y ∷ ys) lt low high = refl
keys_led (x ∷ xs) [] lt low high = absurd (below_least _ lt low)
keys_led (x ∷ xs) (y ∷ ys) lt low high = rw (values_led x y lt high) refl

entries_led : (x y : IndexPlace) → int_cmp (key_lead x.key) (key_lead y.key) ≡ Less → SFits w64 (key_lead x.key) → SFits w64 (key_lead y.key) → entry_cmp x y ≡ Less
entries_led x y lt fits fits2 = rw (keys_led x.key y.key lt (omega (arith, ints)) (omega (arith, ints))) refl

-- leads that differ decide
pub led : IsTotalOrder entry_cmp → (x y : IndexPlace) (a b : ℤ) → a ≡ key_lead x.key → b ≡ key_lead y.key → SFits w64 a → SFits w64 b → (r : Ordering) → r ≡ int_cmp a b → (r ≡ Equal → ⊥) → r ≡ entry_cmp x y
led o x y a b is_a is_b fits fits2 r e apart =
    at r (e ∙ ap (λ n. int_cmp n b) is_a ∙ ap (int_cmp (key_lead x.key)) is_b) apart
  where
    at : (r : Ordering) → r ≡ int_cmp (key_lead x.key) (key_lead y.key) → (r ≡ Equal → ⊥) → r ≡ entry_cmp x y
    at Less e apart = sym (entries_led x y (sym e) (subst (SFits w64) is_a fits) (subst (SFits w64) is_b fits2))
    at Equal e apart = absurd (apart refl)
    at Greater e apart =
        let back : int_cmp (key_lead y.key) (key_lead x.key) ≡ Less = int_cmp_total.antisymm (key_lead y.key) (key_lead x.key) ∙ ap ordering_reverse (sym e) in
        sym (o.antisymm x y ∙ ap ordering_reverse (entries_led y x back (subst (SFits w64) is_b fits2) (subst (SFits w64) is_a fits)))

-- the last entry's lead, found at the end of the list
pub last_is : (xs : List IndexPlace) (last : IndexPlace) → slice_get xs (length xs - 1) ≡ Some last → key_lead last.key ≡ lead_of_last xs
last_is [] last e = absurd (cc)
last_is (x ∷ []) last e = let same : x ≡ last = cc in ap (λ (entry : IndexPlace). key_lead entry.key) (sym same)
last_is (x ∷ y ∷ ys) last e =
    let same : length (x ∷ y ∷ ys) - 1 ≡ suc (length (y ∷ ys) - 1) = omega arith in
    last_is (y ∷ ys) last (rw same at e)
