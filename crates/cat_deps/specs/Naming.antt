-- Which columns of tables a view's query names.
use Rattle.std.specs.Prelude.{◌==◌, Bool, false, ◌&&◌, ◌||◌, Option, None, Some, List, map}
use Rattle.std.specs.List.{slice_get}
use Rattle.q_base.specs.declared.ids.ColId.{ColId}
use Rattle.q_base.specs.declared.ids.ObjId.{ObjId}
use Rattle.std.specs.declared.rc.Rc.{Rc}
use Rattle.std.specs.declared.alloc.Global.{Global}
use Rattle.cat_names.specs.declared.rows.NameRow.{NameRow}
use Rattle.cat_core.specs.declared.entry.Def.{Def}
use Rattle.cat_core.specs.declared.entry.Def.TheVariants as def
use Rattle.cat_core.specs.declared.entry.Entry.{Entry}
use Rattle.cat_core.specs.declared.slots.Slot.{Slot}
use Rattle.cat_core.specs.Objects.{entry_in}
use Rattle.query_tree.specs.declared.query.Aggregate.{Aggregate}
use Rattle.query_tree.specs.declared.query.Aggregate.TheVariants as aggregate
use Rattle.query_tree.specs.declared.query.Item.{Item}
use Rattle.query_tree.specs.declared.query.Query.{Query}
use Rattle.query_tree.specs.declared.query.SortKey.{SortKey}
use Rattle.query_tree.specs.declared.target.ColumnPlace.{ColumnPlace}
use Rattle.query_tree.specs.declared.target.Target.{Target}
use Rattle.query_tree.specs.declared.target.Target.TheOpen.{Target-F}
use Rattle.query_tree.specs.declared.target.Target.TheFolds.{fold-Target}
use Rattle.query_tree.specs.Items.{relation_of}
use Rattle.query_tree.specs.Targets.{any_of}
use Rattle.cat_deps.specs.declared.naming.Named.{Named}

abbrev pub is_item_of : Named → ColId → Option Item → Bool
is_item_of named column None = false
is_item_of named column (Some item) = ((relation_of item).id.0 == named.table.0) && (column.0 == named.column.0)

-- the place is that of the column, by its item
abbrev pub is_named : Named → List Item → ColumnPlace → Bool
is_named named items place = is_item_of named place.column (slice_get items place.item)

abbrev pub names_node : Named → List Item → Target-F Bool → Bool
names_node named items (Target-F.Const kind value) = false
names_node named items (Target-F.Param kind number) = false
names_node named items (Target-F.Column kind place) = is_named named items place
names_node named items (Target-F.Aggregate kind aggregate) = false
names_node named items (Target-F.Arithmetic op kind left right) = left || right
names_node named items (Target-F.Negate kind operand) = operand
names_node named items (Target-F.Compare op left right) = left || right
names_node named items (Target-F.IsNull operand negated) = operand
names_node named items (Target-F.Not operand) = operand
names_node named items (Target-F.And operands) = any_of operands
names_node named items (Target-F.Or operands) = any_of operands
names_node named items (Target-F.In operand values) = operand || any_of values
names_node named items (Target-F.Between operand low high) = operand || low || high

-- the expression names the column
abbrev pub target_names : Named → List Item → Target → Bool
target_names named items = fold-Target Bool (names_node named items)

abbrev pub any_names : Named → List Item → List Target → Bool
any_names named items targets = any_of (map (target_names named items) targets)

abbrev pub aggregate_names : Named → List Item → Aggregate → Bool
aggregate_names named items aggregate.CountRows = false
aggregate_names named items (aggregate.Count argument) = target_names named items argument
aggregate_names named items (aggregate.Sum argument) = target_names named items argument
aggregate_names named items (aggregate.Min argument) = target_names named items argument
aggregate_names named items (aggregate.Max argument) = target_names named items argument

abbrev pub any_aggregate : Named → List Item → List Aggregate → Bool
any_aggregate named items aggregates = any_of (map (aggregate_names named items) aggregates)

abbrev pub key_names : Named → List Item → SortKey → Bool
key_names named items key = target_names named items key.target

abbrev pub any_key : Named → List Item → List SortKey → Bool
any_key named items keys = any_of (map (key_names named items) keys)

abbrev pub some_names : Named → List Item → Option Target → Bool
some_names named items None = false
some_names named items (Some target) = target_names named items target

abbrev pub lists_name : Named → Query → Bool
lists_name named query =
    any_names named query.items query.conds || any_names named query.items query.targets || any_names named query.items query.keys ||
    any_aggregate named query.items query.aggregates || any_names named query.items query.having || any_key named query.items query.order

abbrev pub page_names : Named → Query → Bool
page_names named query = some_names named query.items query.limit || some_names named query.items query.offset

-- a query names the column in one of its clauses
abbrev pub query_names : Named → Query → Bool
query_names named query = lists_name named query || page_names named query

-- an object is a view whose query names the column
abbrev pub def_names : Named → Def → Bool
def_names named (def.View view) = query_names named view.query.value
def_names named (def.Table table) = false
def_names named (def.Index index) = false

abbrev pub entry_names : Named → Option (Rc Entry Global) → Bool
entry_names named None = false
entry_names named (Some entry) = def_names named entry.value.def

abbrev pub is_view_naming : Named → List Slot → ObjId → Bool
is_view_naming named slots id = entry_names named (entry_in slots id)

-- one of the views names the column
abbrev pub is_column_used : Named → List Slot → List NameRow → Bool
is_column_used named slots names = any_of (map (λ (row : NameRow). is_view_naming named slots row.id) names)
