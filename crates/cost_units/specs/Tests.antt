-- Conditions on columns of which more is known.
use Rattle.std.specs.Prelude.{Bool, true, false, Option, None, Some, if◌then◌else◌}
use Rattle.query_tree.specs.declared.target.CompareOp.{CompareOp}
use Rattle.query_tree.specs.declared.target.CompareOp.TheVariants as compare
use Rattle.query_tree.specs.declared.target.ColumnPlace.{ColumnPlace}
use Rattle.query_tree.specs.declared.target.Target.{Target, out-Target}
use Rattle.query_tree.specs.declared.target.Target.TheOpen.{Target-F}

-- a comparison of a column with a constant or a parameter
pub record Test : Type 0 where
  pub column : ColumnPlace
  pub op : CompareOp
  pub value : Target

abbrev pub is_value_node : Target-F Target → Bool
is_value_node (Target-F.Const kind value) = true
is_value_node (Target-F.Param kind number) = true
is_value_node other = false

-- a constant or a parameter
abbrev pub is_value : Target → Bool
is_value target = is_value_node (out-Target target)

-- the operator with its sides exchanged
abbrev pub mirrored : CompareOp → CompareOp
mirrored compare.Equal = compare.Equal
mirrored compare.NotEqual = compare.NotEqual
mirrored compare.Less = compare.Greater
mirrored compare.LessEqual = compare.GreaterEqual
mirrored compare.Greater = compare.Less
mirrored compare.GreaterEqual = compare.LessEqual

abbrev pub is_not_equal : CompareOp → Bool
is_not_equal compare.NotEqual = true
is_not_equal other = false

abbrev pub test_of_value : ColumnPlace → CompareOp → Target → Option Test
test_of_value column op value = if is_value value then Some (record { column = column; op = op; value = value }) else None

abbrev pub test_of : ColumnPlace → CompareOp → Target → Option Test
test_of column op value = if is_not_equal op then None else test_of_value column op value

abbrev pub test_of_sides : CompareOp → Target → Target → Target-F Target → Target-F Target → Option Test
test_of_sides op left right (Target-F.Column kind column) other = test_of column op right
test_of_sides op left right other (Target-F.Column kind column) = test_of column (mirrored op) left
test_of_sides op left right one other = None

abbrev pub test_of_node : Target-F Target → Option Test
test_of_node (Target-F.Compare op left right) = test_of_sides op left right (out-Target left) (out-Target right)
test_of_node other = None

-- a comparison `= < <= > >=` of a column with a constant or a parameter, as if the column stood on the left
abbrev pub column_test : Target → Option Test
column_test cond = test_of_node (out-Target cond)

abbrev pub columns_of_sides : Target-F Target → Target-F Target → Option (ColumnPlace × ColumnPlace)
columns_of_sides (Target-F.Column kind left) (Target-F.Column kind2 right) = Some (left, right)
columns_of_sides one other = None

abbrev pub columns_equal_node : Target-F Target → Option (ColumnPlace × ColumnPlace)
columns_equal_node (Target-F.Compare compare.Equal left right) = columns_of_sides (out-Target left) (out-Target right)
columns_equal_node other = None

-- the columns of `column = column`
abbrev pub columns_equal : Target → Option (ColumnPlace × ColumnPlace)
columns_equal cond = columns_equal_node (out-Target cond)
