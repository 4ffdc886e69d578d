-- The values of AND, OR and IN, from those of their operands, and of BETWEEN from its comparisons.
use Rattle.std.proofs.Common.{◌≡◌, List, [], ◌∷◌, Result, map, refl, Bool, true, false, Option, None, Some, Ok, ap, sym, ◌∙◌}
use Rattle.q_base.specs.declared.code.Code.{Code}
use Rattle.q_value.specs.declared.value.Value.{Value}
use Rattle.query_tree.specs.declared.target.Target.{Target, Target-F, fold-roll-Target}
use Rattle.query_tree.specs.declared.target.Target.TheVariants.{And, Or, In, rolls-And, rolls-Or, rolls-In}
use Rattle.query_tree.specs.Evaluation.{value_of, node_value, joined, truth_value, then_with, both, either, truth_outcome, conjunction, membership}

pub and_value : (operands : List Target) (row params : List Value) →
    value_of (And operands) row params ≡ truth_outcome (joined both (Some true) (map (λ operand. value_of operand row params) operands))
and_value operands row params = ap (λ (t : Target). value_of t row params) (sym (rolls-And operands)) ∙ fold-roll-Target (Result Value Code) (node_value row params) (Target-F.And operands)

pub or_value : (operands : List Target) (row params : List Value) →
    value_of (Or operands) row params ≡ truth_outcome (joined either (Some false) (map (λ operand. value_of operand row params) operands))
or_value operands row params = ap (λ (t : Target). value_of t row params) (sym (rolls-Or operands)) ∙ fold-roll-Target (Result Value Code) (node_value row params) (Target-F.Or operands)

in_value : (operand : Target) (values : List Target) (row params : List Value) →
    value_of (In operand values) row params ≡ then_with (value_of operand row params) (membership (map (λ value. value_of value row params) values))
in_value operand values row params =
    ap (λ (t : Target). value_of t row params) (sym (rolls-In operand values))
    ∙ fold-roll-Target (Result Value Code) (node_value row params) (Target-F.In operand values)

pub in_result : (target shown operand : Target) (listed values : List Target) (row params : List Value) (found result : Result Value Code) →
    target ≡ In operand values → shown ≡ operand → listed ≡ values → found ≡ value_of shown row params →
    result ≡ then_with found (membership (map (λ value. value_of value row params) listed)) → result ≡ value_of target row params
in_result target shown operand listed values row params found result is same all has gives =
    let value : found ≡ value_of operand row params = has ∙ ap (λ (t : Target). value_of t row params) same in
    gives
    ∙ ap (λ (outcome : Result Value Code). then_with outcome (membership (map (λ value. value_of value row params) listed))) value
    ∙ ap (λ (others : List Target). then_with (value_of operand row params) (membership (map (λ value. value_of value row params) others))) all
    ∙ sym (in_value operand values row params)
    ∙ ap (λ (t : Target). value_of t row params) (sym is)

pub within_value : (above below : Option Bool) → Ok (truth_value (both above below)) ≡ conjunction (Ok (truth_value above) ∷ Ok (truth_value below) ∷ [])
within_value None None = refl
within_value None (Some true) = refl
within_value None (Some false) = refl
within_value (Some true) None = refl
within_value (Some true) (Some true) = refl
within_value (Some true) (Some false) = refl
within_value (Some false) None = refl
within_value (Some false) (Some true) = refl
within_value (Some false) (Some false) = refl
