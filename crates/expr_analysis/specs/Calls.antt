-- How many calls of functions are written.
use Rattle.std.specs.Prelude.{ℕ, ◌+◌, ◌-◌, ◌^◌, min, Option, None, Some, List, [], ◌∷◌, map}
use Rattle.sql_tree.specs.declared.expr.Expr.{Expr}
use Rattle.sql_tree.specs.declared.expr.Expr.TheOpen.{Expr-F}
use Rattle.sql_tree.specs.declared.expr.Expr.TheFolds.{fold-Expr}
use Rattle.sql_tree.specs.declared.select.OutputItem.{OutputItem}
use Rattle.sql_tree.specs.declared.select.OutputItem.TheVariants as item
use Rattle.sql_tree.specs.declared.select.OrderItem.{OrderItem}
use Rattle.sql_tree.specs.declared.select.Select.{Select}

-- a sum, no more than a usize holds
infixl 20 ◌⊕◌
abbrev pub ◌⊕◌ : ℕ → ℕ → ℕ
m ⊕ n = min (m + n) (2 ^ 64 - 1)

abbrev pub total : ℕ → List ℕ → ℕ
total count [] = count
total count (one ∷ others) = total (count ⊕ one) others

-- one node, with the count of each operand in its place
abbrev pub node_calls : Expr-F ℕ → ℕ
node_calls (Expr-F.Literal constant) = 0
node_calls (Expr-F.Param digits) = 0
node_calls (Expr-F.Column name) = 0
node_calls (Expr-F.CallStar function) = 1
node_calls (Expr-F.Call function argument) = argument ⊕ 1
node_calls (Expr-F.Minus inner) = inner
node_calls (Expr-F.IsNull inner negated) = inner
node_calls (Expr-F.Not inner) = inner
node_calls (Expr-F.Arithmetic op left right) = left ⊕ right
node_calls (Expr-F.Comparison op left right) = left ⊕ right
node_calls (Expr-F.InList inner values negated) = inner ⊕ total 0 values
node_calls (Expr-F.Between inner low high negated) = inner ⊕ (low ⊕ high)
node_calls (Expr-F.And parts) = total 0 parts
node_calls (Expr-F.Or parts) = total 0 parts

abbrev pub calls : Expr → ℕ
calls = fold-Expr ℕ node_calls

abbrev pub calls_of_output : OutputItem → ℕ
calls_of_output (item.Expr written alias) = calls written
calls_of_output item.All = 0
calls_of_output (item.AllOf named) = 0

abbrev pub calls_of_key : OrderItem → ℕ
calls_of_key key = calls key.expr

abbrev pub calls_of_optional : Option Expr → ℕ
calls_of_optional (Some written) = calls written
calls_of_optional None = 0

-- the calls in the select list, HAVING and ORDER BY
unfoldable pub calls_of_select : Select → ℕ
calls_of_select select =
    total 0 (map calls_of_output select.core.outputs) ⊕ calls_of_optional select.grouping.having ⊕ total 0 (map calls_of_key select.order)
