-- IN and BETWEEN as what they stand for.
use Rattle.std.proofs.Common.{◌≡◌, List, [], ◌∷◌, map, Result, Ok, Err, refl, sym, ap, ◌∙◌}
use Rattle.q_base.specs.declared.code.Code.{Code}
use Rattle.q_value.specs.declared.value.Value.{Value}
use Rattle.query_tree.specs.declared.target.CompareOp.{CompareOp}
use Rattle.query_tree.specs.declared.target.CompareOp.TheVariants as compare
use Rattle.query_tree.specs.declared.target.Target.{Target, Target-F, fold-roll-Target}
use Rattle.query_tree.specs.declared.target.Target.TheVariants.{Compare, And, Or, In, Between, rolls-Compare, rolls-And, rolls-Or, rolls-In, rolls-Between}
use Rattle.query_tree.specs.Evaluation.{value_of, node_value, then_with, conjunction, disjunction, membership, comparison_outcome}

module _ (row params : List Value) where
  abbrev value : Target → Result Value Code
  value target = value_of target row params

  compare_value : (op : CompareOp) (left right : Target) → value (Compare op left right) ≡ comparison_outcome op (value left) (value right)
  compare_value op left right = ap value (sym (rolls-Compare op left right)) ∙ fold-roll-Target (Result Value Code) (node_value row params) (Target-F.Compare op left right)

  and_value : (operands : List Target) → value (And operands) ≡ conjunction (map value operands)
  and_value operands = ap value (sym (rolls-And operands)) ∙ fold-roll-Target (Result Value Code) (node_value row params) (Target-F.And operands)

  or_value : (operands : List Target) → value (Or operands) ≡ disjunction (map value operands)
  or_value operands = ap value (sym (rolls-Or operands)) ∙ fold-roll-Target (Result Value Code) (node_value row params) (Target-F.Or operands)

  in_value : (operand : Target) (values : List Target) → value (In operand values) ≡ then_with (value operand) (membership (map value values))
  in_value operand values = ap value (sym (rolls-In operand values)) ∙ fold-roll-Target (Result Value Code) (node_value row params) (Target-F.In operand values)

  between_value : (operand low high : Target) →
      value (Between operand low high) ≡ conjunction (comparison_outcome compare.GreaterEqual (value operand) (value low) ∷ comparison_outcome compare.LessEqual (value operand) (value high) ∷ [])
  between_value operand low high = ap value (sym (rolls-Between operand low high)) ∙ fold-roll-Target (Result Value Code) (node_value row params) (Target-F.Between operand low high)

  compared_values : (operand : Target) (values : List Target) →
      map (comparison_outcome compare.Equal (value operand)) (map value values) ≡ map value (map (λ other. Compare compare.Equal operand other) values)
  compared_values operand [] = refl
  compared_values operand (other ∷ values) =
      ap (λ (found : Result Value Code). found ∷ map (comparison_outcome compare.Equal (value operand)) (map value values)) (sym (compare_value compare.Equal operand other))
      ∙ ap (λ (found : List (Result Value Code)). value (Compare compare.Equal operand other) ∷ found) (compared_values operand values)

  where_any : (found first : Result Value Code) (others : List (Result Value Code)) →
      then_with found (membership (first ∷ others)) ≡ disjunction (map (comparison_outcome compare.Equal found) (first ∷ others))
  where_any (Ok found) first others = refl
  where_any (Err code) first others = refl

  pub membership_is : (operand other : Target) (values : List Target) →
      value (In operand (other ∷ values)) ≡ value (Or (map (λ one. Compare compare.Equal operand one) (other ∷ values)))
  membership_is operand other values =
      in_value operand (other ∷ values) ∙ where_any (value operand) (value other) (map value values)
      ∙ ap (λ (found : List (Result Value Code)). disjunction found) (compared_values operand (other ∷ values))
      ∙ sym (or_value (map (λ one. Compare compare.Equal operand one) (other ∷ values)))

  pub range_is : (operand low high : Target) →
      value (Between operand low high) ≡ value (And (Compare compare.GreaterEqual operand low ∷ Compare compare.LessEqual operand high ∷ []))
  range_is operand low high =
      between_value operand low high
      ∙ ap (λ (found : Result Value Code). conjunction (found ∷ comparison_outcome compare.LessEqual (value operand) (value high) ∷ [])) (sym (compare_value compare.GreaterEqual operand low))
      ∙ ap (λ (found : Result Value Code). conjunction (value (Compare compare.GreaterEqual operand low) ∷ found ∷ [])) (sym (compare_value compare.LessEqual operand high))
      ∙ sym (and_value (Compare compare.GreaterEqual operand low ∷ Compare compare.LessEqual operand high ∷ []))
