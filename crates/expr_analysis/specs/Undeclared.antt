-- Parameters without a declared type.
use Rattle.std.specs.Prelude.{ℕ, ◌+◌, ◌-◌, ◌*◌, ◌^◌, min, nat_lt, Bool, true, false, ◌||◌, Option, None, Some, List, [], ◌∷◌, map}
use Rattle.sql_tree.specs.declared.expr.Expr.{Expr}
use Rattle.sql_tree.specs.declared.expr.Expr.TheOpen.{Expr-F}
use Rattle.sql_tree.specs.declared.expr.Expr.TheFolds.{fold-Expr}
use Rattle.sql_tree.specs.declared.rows.Assignment.{Assignment}
use Rattle.sql_tree.specs.declared.rows.DeleteTree.{DeleteTree}
use Rattle.sql_tree.specs.declared.rows.InsertTree.{InsertTree}
use Rattle.sql_tree.specs.declared.rows.NewValue.{NewValue}
use Rattle.sql_tree.specs.declared.rows.NewValue.TheVariants as given
use Rattle.sql_tree.specs.declared.rows.UpdateTree.{UpdateTree}
use Rattle.sql_tree.specs.declared.select.FromChain.{FromChain}
use Rattle.sql_tree.specs.declared.select.Join.{Join}
use Rattle.sql_tree.specs.declared.select.Join.TheVariants as join
use Rattle.sql_tree.specs.declared.select.OrderItem.{OrderItem}
use Rattle.sql_tree.specs.declared.select.OutputItem.{OutputItem}
use Rattle.sql_tree.specs.declared.select.OutputItem.TheVariants as item
use Rattle.sql_tree.specs.declared.select.RowCount.{RowCount}
use Rattle.sql_tree.specs.declared.select.RowCount.TheVariants as count
use Rattle.sql_tree.specs.declared.select.Select.{Select}
use Rattle.expr_analysis.specs.Nodes.{Text}

abbrev pub at_most : ℕ → ℕ
at_most number = min number (2 ^ 64 - 1)

-- the number that digits write, no more than a usize holds
abbrev pub number_from : ℕ → Text → ℕ
number_from number [] = number
number_from number (digit ∷ digits) = number_from (at_most (at_most (number * 10) + (digit - 48))) digits

-- the number is none of the first ones
abbrev pub is_undeclared : ℕ → Text → Bool
is_undeclared declared digits = nat_lt declared (number_from 0 digits)

abbrev pub any_of : List Bool → Bool
any_of [] = false
any_of (one ∷ others) = one || any_of others

-- one node, with the answer of each operand in its place
abbrev pub node_undeclared : ℕ → Expr-F Bool → Bool
node_undeclared declared (Expr-F.Literal constant) = false
node_undeclared declared (Expr-F.Column name) = false
node_undeclared declared (Expr-F.CallStar function) = false
node_undeclared declared (Expr-F.Param digits) = is_undeclared declared digits
node_undeclared declared (Expr-F.Call function argument) = argument
node_undeclared declared (Expr-F.Minus inner) = inner
node_undeclared declared (Expr-F.IsNull inner negated) = inner
node_undeclared declared (Expr-F.Not inner) = inner
node_undeclared declared (Expr-F.Arithmetic op left right) = left || right
node_undeclared declared (Expr-F.Comparison op left right) = left || right
node_undeclared declared (Expr-F.InList inner values negated) = inner || any_of values
node_undeclared declared (Expr-F.Between inner low high negated) = inner || low || high
node_undeclared declared (Expr-F.And parts) = any_of parts
node_undeclared declared (Expr-F.Or parts) = any_of parts

-- a parameter that is none of the first ones stands in an expression
abbrev pub has_undeclared : ℕ → Expr → Bool
has_undeclared declared = fold-Expr Bool (node_undeclared declared)

-- ---- the same of the parts of statements

abbrev pub in_optional : ℕ → Option Expr → Bool
in_optional declared (Some written) = has_undeclared declared written
in_optional declared None = false

abbrev pub in_output : ℕ → OutputItem → Bool
in_output declared (item.Expr written alias) = has_undeclared declared written
in_output declared item.All = false
in_output declared (item.AllOf named) = false

abbrev pub in_join : ℕ → Join → Bool
in_join declared (join.Inner named condition) = has_undeclared declared condition
in_join declared (join.Cross named) = false

abbrev pub in_chain : ℕ → FromChain → Bool
in_chain declared chain = any_of (map (in_join declared) chain.joins)

abbrev pub in_key : ℕ → OrderItem → Bool
in_key declared key = has_undeclared declared key.expr

abbrev pub in_count : ℕ → Option RowCount → Bool
in_count declared (Some (count.Param digits)) = is_undeclared declared digits
in_count declared (Some (count.Number numeral)) = false
in_count declared (Some count.Null) = false
in_count declared None = false

abbrev pub in_value : ℕ → NewValue → Bool
in_value declared (given.Expr written) = has_undeclared declared written
in_value declared given.Default = false

abbrev pub in_row : ℕ → List NewValue → Bool
in_row declared row = any_of (map (in_value declared) row)

unfoldable pub in_select : ℕ → Select → Bool
in_select declared select =
    any_of (map (in_output declared) select.core.outputs) || any_of (map (in_chain declared) select.core.from)
    || in_optional declared select.core.condition || in_optional declared select.grouping.having
    || any_of (map (in_key declared) select.order) || in_count declared select.limits.limit || in_count declared select.limits.offset

unfoldable pub in_insert : ℕ → InsertTree → Bool
in_insert declared insert = any_of (map (in_row declared) insert.rows) || any_of (map (in_output declared) insert.returning)

abbrev pub in_assignment : ℕ → Assignment → Bool
in_assignment declared assignment = in_value declared assignment.value

abbrev pub in_update : ℕ → UpdateTree → Bool
in_update declared update =
    any_of (map (in_assignment declared) update.assignments) || in_optional declared update.condition || any_of (map (in_output declared) update.returning)

unfoldable pub in_delete : ℕ → DeleteTree → Bool
in_delete declared delete = in_optional declared delete.condition || any_of (map (in_output declared) delete.returning)
