-- Without arithmetic nothing faults.
use Rattle.std.proofs.Common.{◌≡◌, Bool, true, false, ◌||◌, List, [], ◌∷◌, map, Option, Some, Result, Ok, Err, refl, sym, ap, ◌∙◌, subst, true≢false}
use Rattle.q_base.specs.declared.code.Code.{Code}
use Rattle.q_value.specs.declared.value.Value.{Value}
use Rattle.query_tree.specs.declared.target.Target.{Target, Target-F, map-Target, roll-Target, fold-roll-Target, ind-Target}
use Rattle.query_tree.specs.Targets.{any_of, has_fallible_node, is_fallible}
use Rattle.query_tree.specs.Evaluation.{value_of, node_value, then_with, joined, both, either, truth_in, comparison_outcome}
use Rattle.query_tree.specs.declared.target.CompareOp.{CompareOp}
use Rattle.query_tree.specs.declared.target.CompareOp.TheVariants as compare

abbrev Has : {A : Type 0} → Result A Code → Type 0
Has {A} outcome = (found : A) × (outcome ≡ Ok found)

then_has : {A B : Type 0} (outcome : Result A Code) (next : A → Result B Code) → Has outcome → ((found : A) → Has (next found)) → Has (then_with outcome next)
then_has (Ok found) next has more = more found
then_has (Err code) next has more = absurd (cc (has.1))

or_left : (a b : Bool) → a || b ≡ false → a ≡ false
or_left false b e = refl
or_left true b e = absurd (true≢false e)

or_right : (a b : Bool) → a || b ≡ false → b ≡ false
or_right false b e = e
or_right true b e = absurd (true≢false e)

module _ (row params : List Value) where
  abbrev IsSure : Target → Type 0
  IsSure target = is_fallible target ≡ false → Has (value_of target row params)

  abbrev Sure : Type 0
  Sure = (target : Target) × IsSure target

  abbrev tree : Sure → Target
  tree sure = sure.0

  abbrev value : Target → Result Value Code
  value target = value_of target row params

  joined_has : (connective : Option Bool → Option Bool → Option Bool) (truth : Option Bool) (operands : List Sure) →
      any_of (map is_fallible (map tree operands)) ≡ false → Has (joined connective truth (map value (map tree operands)))
  joined_has connective truth [] none = (truth, refl)
  joined_has connective truth (operand ∷ operands) none =
      then_has (value operand.0) _ (operand.1 (or_left _ _ none)) (λ found. joined_has connective (connective truth (truth_in found)) operands (or_right (is_fallible operand.0) _ none))

  comparison_has : (op : CompareOp) (left right : Sure) → is_fallible left.0 ≡ false → is_fallible right.0 ≡ false → Has (comparison_outcome op (value left.0) (value right.0))
  comparison_has op left right plain plain2 = then_has (value left.0) _ (left.1 plain) (λ l. then_has (value right.0) _ (right.1 plain2) (λ r. (_, refl)))

  listed_has : (truth : Option Bool) (found : Value) (values : List Sure) → any_of (map is_fallible (map tree values)) ≡ false →
      Has (joined either truth (map (comparison_outcome compare.Equal (Ok found)) (map value (map tree values))))
  listed_has truth found [] none = (truth, refl)
  listed_has truth found (other ∷ values) none =
      then_has _ _ (then_has (value other.0) _ (other.1 (or_left _ _ none)) (λ r. (_, refl)))
      (λ equal. listed_has (either truth (truth_in equal)) found values (or_right (is_fallible other.0) _ none))

  between_has : (operand low high : Sure) → is_fallible operand.0 || is_fallible low.0 || is_fallible high.0 ≡ false →
      Has (joined both (Some true) (comparison_outcome compare.GreaterEqual (value operand.0) (value low.0) ∷ comparison_outcome compare.LessEqual (value operand.0) (value high.0) ∷ []))
  between_has operand low high none =
      let front = or_left (is_fallible operand.0 || is_fallible low.0) _ none in
      let plain = or_left _ _ front in
      then_has _ _ (comparison_has compare.GreaterEqual operand low plain (or_right (is_fallible operand.0) _ front))
      (λ f. then_has _ _ (comparison_has compare.LessEqual operand high plain (or_right (is_fallible operand.0 || is_fallible low.0) _ none)) (λ g. (_, refl)))

  node_has : (node : Target-F Sure) → has_fallible_node (map-Target Target Bool is_fallible (map-Target Sure Target tree node)) ≡ false →
      Has (node_value row params (map-Target Target (Result Value Code) value (map-Target Sure Target tree node)))
  node_has (Target-F.Const kind constant) none = (_, refl)
  node_has (Target-F.Param kind number) none = (_, refl)
  node_has (Target-F.Column kind column) none = (_, refl)
  node_has (Target-F.Aggregate kind aggregate) none = (_, refl)
  node_has (Target-F.Arithmetic op kind left right) none = absurd (true≢false none)
  node_has (Target-F.Negate kind operand) none = absurd (true≢false none)
  node_has (Target-F.Compare op left right) none =
      then_has (value left.0) _ (left.1 (or_left _ _ none)) (λ l. then_has (value right.0) _ (right.1 (or_right (is_fallible left.0) _ none)) (λ r. (_, refl)))
  node_has (Target-F.IsNull operand negated) none = then_has (value operand.0) _ (operand.1 none) (λ found. (_, refl))
  node_has (Target-F.Not operand) none = then_has (value operand.0) _ (operand.1 none) (λ found. (_, refl))
  node_has (Target-F.And operands) none = then_has _ _ (joined_has both (Some true) operands none) (λ found. (_, refl))
  node_has (Target-F.Or operands) none = then_has _ _ (joined_has either (Some false) operands none) (λ found. (_, refl))
  node_has (Target-F.In operand values) none = then_has (value operand.0) _ (operand.1 (or_left _ _ none)) (λ found. then_has _ _ (listed_has (Some false) found values (or_right (is_fallible operand.0) _ none)) (λ truth. (_, refl)))
  node_has (Target-F.Between operand low high) none = then_has _ _ (between_has operand low high none) (λ found. (_, refl))

  pub sure : (target : Target) → IsSure target
  sure = ind-Target IsSure (λ node proved is.
      subst (λ (n : Target-F Target). IsSure (roll-Target n)) is (λ none.
      let inner = map-Target Sure Target tree proved in
      let whole = node_has proved (sym (fold-roll-Target Bool has_fallible_node inner) ∙ none) in
      (whole.0, fold-roll-Target (Result Value Code) (node_value row params) inner ∙ whole.1)))
