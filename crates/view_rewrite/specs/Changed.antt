-- How the expressions of a query change where its views are replaced.
use Rattle.std.specs.Prelude.{ℕ, ◌+◌, ◌-◌, ◌^◌, min, List, Option, None, Some, slice_get, unwrap_or}
use Rattle.q_value.specs.declared.value.SqlType.{SqlType}
use Rattle.query_tree.specs.declared.query.Aggregate.{Aggregate}
use Rattle.query_tree.specs.declared.query.Aggregate.TheVariants as aggregate
use Rattle.query_tree.specs.declared.query.SortKey.{SortKey}
use Rattle.query_tree.specs.declared.target.AggregatePlace.{AggregatePlace}
use Rattle.query_tree.specs.declared.target.ColumnPlace.{ColumnPlace}
use Rattle.query_tree.specs.declared.target.Target.{Target}
use Rattle.query_tree.specs.declared.target.Target.TheOpen.{Target-F}
use Rattle.query_tree.specs.declared.target.Target.TheFolds.{fold-Target}
use Rattle.query_tree.specs.declared.target.Target.TheVariants as target
use Rattle.view_rewrite.specs.declared.changed.Meaning.{Meaning}
use Rattle.view_rewrite.specs.declared.changed.Meaning.TheVariants as meaning

-- a place so far behind another, or the last place that there is
abbrev pub behind : ℕ → ℕ → ℕ
behind start further = min (start + further) (2 ^ 64 - 1)

-- the column of an item that has a new place
abbrev pub placed_at : ColumnPlace → ℕ → ℕ → ColumnPlace
placed_at column item start = record { item = item; column = column.column; place = behind start column.column.0 }

-- what stands for a column
abbrev pub column_as : SqlType → ColumnPlace → Option Meaning → Target
column_as kind column None = target.Column kind column
column_as kind column (Some (meaning.Placed item start)) = target.Column kind (placed_at column item start)
column_as kind column (Some (meaning.PulledUp targets)) = unwrap_or (slice_get targets column.column.0) (target.Column kind column)

-- the value of an aggregate stands behind a row of that width
abbrev pub placed_behind : AggregatePlace → ℕ → AggregatePlace
placed_behind place width = record { number = place.number; place = behind width place.number }

-- one node, with each operand changed
abbrev pub changed_node : List Meaning → ℕ → Target-F Target → Target
changed_node meanings width (Target-F.Const kind constant) = target.Const kind constant
changed_node meanings width (Target-F.Param kind number) = target.Param kind number
changed_node meanings width (Target-F.Column kind column) = column_as kind column (slice_get meanings column.item)
changed_node meanings width (Target-F.Aggregate kind place) = target.Aggregate kind (placed_behind place width)
changed_node meanings width (Target-F.Arithmetic op kind left right) = target.Arithmetic op kind left right
changed_node meanings width (Target-F.Negate kind operand) = target.Negate kind operand
changed_node meanings width (Target-F.Compare op left right) = target.Compare op left right
changed_node meanings width (Target-F.IsNull operand negated) = target.IsNull operand negated
changed_node meanings width (Target-F.Not operand) = target.Not operand
changed_node meanings width (Target-F.And operands) = target.And operands
changed_node meanings width (Target-F.Or operands) = target.Or operands
changed_node meanings width (Target-F.In operand values) = target.In operand values
changed_node meanings width (Target-F.Between operand low high) = target.Between operand low high

-- an expression in which each column is what its item has become, and each aggregate stands behind the row
abbrev pub changed : List Meaning → ℕ → Target → Target
changed meanings width expression = fold-Target Target (changed_node meanings width) expression

abbrev pub changed_aggregate : List Meaning → ℕ → Aggregate → Aggregate
changed_aggregate meanings width aggregate.CountRows = aggregate.CountRows
changed_aggregate meanings width (aggregate.Count argument) = aggregate.Count (changed meanings width argument)
changed_aggregate meanings width (aggregate.Sum argument) = aggregate.Sum (changed meanings width argument)
changed_aggregate meanings width (aggregate.Min argument) = aggregate.Min (changed meanings width argument)
changed_aggregate meanings width (aggregate.Max argument) = aggregate.Max (changed meanings width argument)

abbrev pub changed_key : List Meaning → ℕ → SortKey → SortKey
changed_key meanings width key = record key { target = changed meanings width key.target }
