-- IN as the OR of its comparisons, and BETWEEN as the AND of its two.
use Rattle.std.proofs.Common.{◌≡◌, ◌==◌, Bool, true, false, ◌&&◌, ◌||◌, List, [], ◌∷◌, map, length, refl, sym, ap, ◌∙◌, subst, arith}
use Rattle.query_tree.specs.declared.target.CompareOp.{CompareOp}
use Rattle.query_tree.specs.declared.target.CompareOp.TheVariants as compare
use Rattle.query_tree.specs.declared.target.Target.{Target, Target-F, out-Target, roll-Target, map-Target, fold-roll-Target, out-roll-Target}
use Rattle.query_tree.specs.declared.target.Target.TheVariants as target
use Rattle.expr_analysis.specs.Same.{same_target, same_node, all_same, equals, equality, is_comparison, compares, is_empty, range_in, tests_range}

abbrev Test : Type 0
Test = Target → Bool

-- a target's test is that of its node, with the tests of its operands
unrolled : (node : Target-F Target) (other : Target) → same_target (roll-Target node) other ≡ same_node (map-Target Target Test same_target node) (out-Target other)
unrolled node other = ap (λ (f : Target → Bool). f other) (fold-roll-Target Test (λ layer other. same_node layer (out-Target other)) node)

comparison_node : (op : CompareOp) (a b : Test) (node : Target-F Target) → same_node (Target-F.Compare op a b) node ≡ is_comparison op a b node
comparison_node op a b (Target-F.Const kind value) = refl
comparison_node op a b (Target-F.Param kind number) = refl
comparison_node op a b (Target-F.Column kind column) = refl
comparison_node op a b (Target-F.Aggregate kind place) = refl
comparison_node op a b (Target-F.Arithmetic op2 kind left right) = refl
comparison_node op a b (Target-F.Negate kind operand) = refl
comparison_node op a b (Target-F.Compare op2 a2 b2) = refl
comparison_node op a b (Target-F.IsNull operand negated) = refl
comparison_node op a b (Target-F.Not operand) = refl
comparison_node op a b (Target-F.And operands) = refl
comparison_node op a b (Target-F.Or operands) = refl
comparison_node op a b (Target-F.In operand values) = refl
comparison_node op a b (Target-F.Between operand low high) = refl

comparison : (op : CompareOp) (a b other : Target) → same_target (target.Compare op a b) other ≡ compares op (same_target a) (same_target b) other
unfolding roll-Target out-Target denote.Hole.Carrier.roll
comparison op a b other = unrolled (Target-F.Compare op a b) other ∙ comparison_node op (same_target a) (same_target b) (out-Target other)

not_empty : {A : Type 0} (x : A) (xs : List A) → is_empty (x ∷ xs) ≡ false
not_empty x xs = grind arith

-- ---- IN

beside_or : (operand : Target) (values others : List Target) →
    all_same (map (equals (same_target operand)) (map same_target values)) others ≡ all_same (map same_target (map (equality operand) values)) others
beside_or operand [] [] = refl
beside_or operand [] (other ∷ others) = refl
beside_or operand (value ∷ values) [] = refl
beside_or operand (value ∷ values) (other ∷ others) =
    ap (λ first. first && all_same (map (equals (same_target operand)) (map same_target values)) others) (sym (comparison compare.Equal operand value other))
    ∙ ap (λ rest. same_target (equality operand value) other && rest) (beside_or operand values others)

shuffle : (p q all none : Bool) → (q && all) && (false || p) ≡ (p && q) && (all && (none || p))
shuffle false false false false = refl
shuffle false false false true = refl
shuffle false false true false = refl
shuffle false false true true = refl
shuffle false true false false = refl
shuffle false true false true = refl
shuffle false true true false = refl
shuffle false true true true = refl
shuffle true false false false = refl
shuffle true false false true = refl
shuffle true false true false = refl
shuffle true false true true = refl
shuffle true true false false = refl
shuffle true true false true = refl
shuffle true true true false = refl
shuffle true true true true = refl

equality_node : (operand value operand2 value2 : Target) → same_target (equality operand value) (equality operand2 value2) ≡ same_target operand operand2 && same_target value value2
unfolding roll-Target out-Target denote.Hole.Carrier.roll
equality_node operand value operand2 value2 =
    unrolled (Target-F.Compare compare.Equal operand value) (equality operand2 value2)
    ∙ ap (λ (node : Target-F Target). same_node (Target-F.Compare compare.Equal (same_target operand) (same_target value)) node) (out-roll-Target (Target-F.Compare compare.Equal operand2 value2))

beside_in : (operand operand2 : Target) (values values2 : List Target) →
    all_same (map same_target values) values2 && (is_empty (map same_target values) || same_target operand operand2)
    ≡ all_same (map same_target (map (equality operand) values)) (map (equality operand2) values2)
beside_in operand operand2 [] [] = refl
beside_in operand operand2 [] (value2 ∷ values2) = refl
beside_in operand operand2 (value ∷ values) [] = refl
beside_in operand operand2 (value ∷ values) (value2 ∷ values2) =
    ap (λ none. (same_target value value2 && all_same (map same_target values) values2) && (none || same_target operand operand2)) (not_empty (same_target value) (map same_target values))
    ∙ (shuffle (same_target operand operand2) (same_target value value2) (all_same (map same_target values) values2) (is_empty (map same_target values))
    ∙ (ap (λ first. first && (all_same (map same_target values) values2 && (is_empty (map same_target values) || same_target operand operand2))) (sym (equality_node operand value operand2 value2))
    ∙ ap (λ rest. same_target (equality operand value) (equality operand2 value2) && rest) (beside_in operand operand2 values values2)))

member_node : (operand : Target) (values : List Target) (node : Target-F Target) →
    same_node (Target-F.In (same_target operand) (map same_target values)) node ≡ same_node (Target-F.Or (map same_target (map (equality operand) values))) node
member_node operand values (Target-F.Const kind value) = refl
member_node operand values (Target-F.Param kind number) = refl
member_node operand values (Target-F.Column kind column) = refl
member_node operand values (Target-F.Aggregate kind place) = refl
member_node operand values (Target-F.Arithmetic op2 kind left right) = refl
member_node operand values (Target-F.Negate kind inner) = refl
member_node operand values (Target-F.Compare op2 a2 b2) = refl
member_node operand values (Target-F.IsNull inner negated) = refl
member_node operand values (Target-F.Not inner) = refl
member_node operand values (Target-F.And operands) = refl
member_node operand values (Target-F.Or operands) = beside_or operand values operands
member_node operand values (Target-F.In operand2 values2) = beside_in operand operand2 values values2
member_node operand values (Target-F.Between inner low high) = refl

pub member : (operand other : Target) (values : List Target) → same_target (target.In operand values) other ≡ same_target (target.Or (map (equality operand) values)) other
unfolding roll-Target out-Target denote.Hole.Carrier.roll
member operand other values =
    unrolled (Target-F.In operand values) other
    ∙ (member_node operand values (out-Target other) ∙ sym (unrolled (Target-F.Or (map (equality operand) values)) other))

-- ---- BETWEEN

nothing_more : (others : List Target) → is_empty others ≡ all_same [] others
nothing_more [] = refl
nothing_more (other ∷ others) = not_empty other others

regroup : (p q r : Bool) → p && q && r ≡ p && (q && r)
regroup false false false = refl
regroup false false true = refl
regroup false true false = refl
regroup false true true = refl
regroup true false false = refl
regroup true false true = refl
regroup true true false = refl
regroup true true true = refl

never : (p : Bool) → false ≡ p && false
never false = refl
never true = refl

both_sides : (p l h : Bool) → p && l && h ≡ (p && l) && (p && h) && true
both_sides false false false = refl
both_sides false false true = refl
both_sides false true false = refl
both_sides false true true = refl
both_sides true false false = refl
both_sides true false true = refl
both_sides true true false = refl
both_sides true true true = refl

abbrev lower : Target → Target → Target
lower operand low = target.Compare compare.GreaterEqual operand low

abbrev upper : Target → Target → Target
upper operand high = target.Compare compare.LessEqual operand high

beside_and : (operand low high : Target) (others : List Target) →
    range_in (compares compare.GreaterEqual (same_target operand) (same_target low)) (compares compare.LessEqual (same_target operand) (same_target high)) others
    ≡ all_same (same_target (lower operand low) ∷ same_target (upper operand high) ∷ []) others
beside_and operand low high [] = refl
beside_and operand low high (first ∷ []) = never (same_target (lower operand low) first)
beside_and operand low high (first ∷ second ∷ others) =
    ap (λ test. test && compares compare.LessEqual (same_target operand) (same_target high) second && is_empty others) (sym (comparison compare.GreaterEqual operand low first))
    ∙ (ap (λ test. same_target (lower operand low) first && test && is_empty others) (sym (comparison compare.LessEqual operand high second))
    ∙ (regroup (same_target (lower operand low) first) (same_target (upper operand high) second) (is_empty others)
    ∙ ap (λ rest. same_target (lower operand low) first && (same_target (upper operand high) second && rest)) (nothing_more others)))

lower_node : (operand low operand2 low2 : Target) → same_target (lower operand low) (lower operand2 low2) ≡ same_target operand operand2 && same_target low low2
unfolding roll-Target out-Target denote.Hole.Carrier.roll
lower_node operand low operand2 low2 =
    unrolled (Target-F.Compare compare.GreaterEqual operand low) (lower operand2 low2)
    ∙ ap (λ (node : Target-F Target). same_node (Target-F.Compare compare.GreaterEqual (same_target operand) (same_target low)) node) (out-roll-Target (Target-F.Compare compare.GreaterEqual operand2 low2))

upper_node : (operand high operand2 high2 : Target) → same_target (upper operand high) (upper operand2 high2) ≡ same_target operand operand2 && same_target high high2
unfolding roll-Target out-Target denote.Hole.Carrier.roll
upper_node operand high operand2 high2 =
    unrolled (Target-F.Compare compare.LessEqual operand high) (upper operand2 high2)
    ∙ ap (λ (node : Target-F Target). same_node (Target-F.Compare compare.LessEqual (same_target operand) (same_target high)) node) (out-roll-Target (Target-F.Compare compare.LessEqual operand2 high2))

beside_between : (operand low high operand2 low2 high2 : Target) →
    same_target operand operand2 && same_target low low2 && same_target high high2
    ≡ same_target (lower operand low) (lower operand2 low2) && same_target (upper operand high) (upper operand2 high2) && true
beside_between operand low high operand2 low2 high2 =
    both_sides (same_target operand operand2) (same_target low low2) (same_target high high2)
    ∙ (ap (λ test. test && (same_target operand operand2 && same_target high high2) && true) (sym (lower_node operand low operand2 low2))
    ∙ ap (λ test. same_target (lower operand low) (lower operand2 low2) && test && true) (sym (upper_node operand high operand2 high2)))

range_node : (operand low high : Target) (node : Target-F Target) →
    same_node (Target-F.Between (same_target operand) (same_target low) (same_target high)) node
    ≡ same_node (Target-F.And (same_target (lower operand low) ∷ same_target (upper operand high) ∷ [])) node
range_node operand low high (Target-F.Const kind value) = refl
range_node operand low high (Target-F.Param kind number) = refl
range_node operand low high (Target-F.Column kind column) = refl
range_node operand low high (Target-F.Aggregate kind place) = refl
range_node operand low high (Target-F.Arithmetic op2 kind left right) = refl
range_node operand low high (Target-F.Negate kind inner) = refl
range_node operand low high (Target-F.Compare op2 a2 b2) = refl
range_node operand low high (Target-F.IsNull inner negated) = refl
range_node operand low high (Target-F.Not inner) = refl
range_node operand low high (Target-F.And operands) = beside_and operand low high operands
range_node operand low high (Target-F.Or operands) = refl
range_node operand low high (Target-F.In inner values) = refl
range_node operand low high (Target-F.Between operand2 low2 high2) = beside_between operand low high operand2 low2 high2

pub range : (operand low high other : Target) → same_target (target.Between operand low high) other ≡ same_target (target.And (lower operand low ∷ upper operand high ∷ [])) other
unfolding roll-Target out-Target denote.Hole.Carrier.roll
range operand low high other =
    unrolled (Target-F.Between operand low high) other
    ∙ (range_node operand low high (out-Target other) ∙ sym (unrolled (Target-F.And (lower operand low ∷ upper operand high ∷ [])) other))
