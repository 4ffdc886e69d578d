-- How expressions change on their way into a plan.
use Rattle.std.specs.Prelude.{ℕ, suc, zero, ◌+◌, ◌-◌, ◌^◌, min, List, Option, None, Some, slice_get, unwrap_or, option_map}
use Rattle.q_value.specs.declared.value.SqlType.{SqlType}
use Rattle.q_value.specs.declared.value.Value.{Value}
use Rattle.query_tree.specs.declared.query.Aggregate.{Aggregate}
use Rattle.query_tree.specs.declared.query.Aggregate.TheVariants as aggregate
use Rattle.query_tree.specs.declared.query.SortKey.{SortKey}
use Rattle.query_tree.specs.declared.target.AggregatePlace.{AggregatePlace}
use Rattle.query_tree.specs.declared.target.ColumnPlace.{ColumnPlace}
use Rattle.query_tree.specs.declared.target.Target.{Target}
use Rattle.query_tree.specs.declared.target.Target.TheOpen.{Target-F}
use Rattle.query_tree.specs.declared.target.Target.TheFolds.{fold-Target}
use Rattle.query_tree.specs.declared.target.Target.TheVariants as target

-- the parameters' values, where they are constants, where the rows of the items begin, and the width of a row
pub record Changing : Type 0 where
  pub params : Option (List Value)
  pub offsets : List ℕ
  pub width : ℕ

abbrev pub changing : Option (List Value) → List ℕ → ℕ → Changing
changing params offsets width = record { params = params; offsets = offsets; width = width }

-- a place so far behind another, or the last place that there is
abbrev pub behind : ℕ → ℕ → ℕ
behind start further = min (start + further) (2 ^ 64 - 1)

abbrev pub value_of : ℕ → Option (List Value) → Option Value
value_of number None = None
value_of zero (Some params) = None
value_of (suc place) (Some params) = slice_get params place

abbrev pub param_as : SqlType → ℕ → Option Value → Target
param_as kind number None = target.Param kind number
param_as kind number (Some value) = target.Const kind value

abbrev pub offset_of : ℕ → List ℕ → ℕ
offset_of item offsets = unwrap_or (slice_get offsets item) 0

abbrev pub placed : ColumnPlace → List ℕ → ColumnPlace
placed column offsets = record { item = column.item; column = column.column; place = behind (offset_of column.item offsets) column.column.0 }

abbrev pub placed_behind : AggregatePlace → ℕ → AggregatePlace
placed_behind place width = record { number = place.number; place = behind width place.number }

abbrev pub changed_node : Changing → Target-F Target → Target
changed_node change (Target-F.Const kind constant) = target.Const kind constant
changed_node change (Target-F.Param kind number) = param_as kind number (value_of number change.params)
changed_node change (Target-F.Column kind column) = target.Column kind (placed column change.offsets)
changed_node change (Target-F.Aggregate kind place) = target.Aggregate kind (placed_behind place change.width)
changed_node change (Target-F.Arithmetic op kind left right) = target.Arithmetic op kind left right
changed_node change (Target-F.Negate kind operand) = target.Negate kind operand
changed_node change (Target-F.Compare op left right) = target.Compare op left right
changed_node change (Target-F.IsNull operand negated) = target.IsNull operand negated
changed_node change (Target-F.Not operand) = target.Not operand
changed_node change (Target-F.And operands) = target.And operands
changed_node change (Target-F.Or operands) = target.Or operands
changed_node change (Target-F.In operand values) = target.In operand values
changed_node change (Target-F.Between operand low high) = target.Between operand low high

-- an expression whose columns stand at their places in a row of a join, and whose parameters are constants where they have values
abbrev pub changed : Changing → Target → Target
changed change expression = fold-Target Target (changed_node change) expression

abbrev pub some_changed : Changing → Option Target → Option Target
some_changed change expression = option_map (changed change) expression

abbrev pub changed_aggregate : Changing → Aggregate → Aggregate
changed_aggregate change aggregate.CountRows = aggregate.CountRows
changed_aggregate change (aggregate.Count argument) = aggregate.Count (changed change argument)
changed_aggregate change (aggregate.Sum argument) = aggregate.Sum (changed change argument)
changed_aggregate change (aggregate.Min argument) = aggregate.Min (changed change argument)
changed_aggregate change (aggregate.Max argument) = aggregate.Max (changed change argument)

abbrev pub changed_key : Changing → SortKey → SortKey
changed_key change key = record { target = changed change key.target; desc = key.desc; nulls_first = key.nulls_first }
