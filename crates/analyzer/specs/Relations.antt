-- Tables and views as items see them.
use Rattle.std.specs.Prelude.{ℕ, zero, suc, ◌+◌, Bool, true, false, ◌==◌, Option, None, Some, List, [], ◌∷◌, length, map, if◌then◌else◌}
use Rattle.query_tree.specs.declared.query.Relation.{Relation}
use Rattle.query_tree.specs.declared.result.ResultColumn.{ResultColumn}
use Rattle.cat_core.specs.declared.entry.Column.{Column}
use Rattle.cat_core.specs.declared.entry.Def.{Def}
use Rattle.cat_core.specs.declared.entry.Def.TheVariants as def
use Rattle.cat_core.specs.declared.entry.Entry.{Entry}
use Rattle.expr_analysis.specs.declared.scope.ScopeItem.{ScopeItem}
use Rattle.expr_analysis.specs.Nodes.{Text}
use Rattle.expr_analysis.specs.Scopes.{◌⊕◌}

-- where the row of an item ends in the row of the product
abbrev pub end_of : ScopeItem → ℕ
end_of item = item.offset ⊕ length item.relation.columns

abbrev pub width_from : ℕ → List ScopeItem → ℕ
width_from width [] = width
width_from width (item ∷ items) = width_from (end_of item) items

-- how long the rows of items are together
abbrev pub width_of : List ScopeItem → ℕ
width_of items = width_from 0 items

abbrev pub result_column : Column → ResultColumn
result_column column = record { name = column.name; kind = column.kind }

-- the first column, where it has the id
abbrev pub column_at : ℕ → List Column → Option ResultColumn
column_at id [] = None
column_at id (column ∷ columns) = if column.id.0 == id then Some (result_column column) else None

abbrev pub behind_id : ℕ → List Column → List Column
behind_id id [] = []
behind_id id (column ∷ columns) = if column.id.0 == id then columns else column ∷ columns

-- columns by their ids, from an id on and as many as are said, with a gap for each that was dropped
abbrev pub placed_from : ℕ → ℕ → List Column → List (Option ResultColumn)
placed_from zero id columns = []
placed_from (suc more) id columns = column_at id columns ∷ placed_from more (id + 1) (behind_id id columns)

abbrev pub all_columns : List ResultColumn → List (Option ResultColumn)
all_columns columns = map (λ column. Some column) columns

abbrev pub view_columns : Option (List ResultColumn) → List (Option ResultColumn)
view_columns None = []
view_columns (Some columns) = all_columns columns

-- the columns of an object's rows by their places
abbrev pub columns_of : Def → List (Option ResultColumn)
columns_of (def.Table table) = placed_from table.next_column 0 table.columns
columns_of (def.View view) = view_columns view.result.columns
columns_of (def.Index index) = []

abbrev pub is_view : Def → Bool
is_view (def.View view) = true
is_view (def.Table table) = false
is_view (def.Index index) = false

abbrev pub relation_of : Entry → Option Text → Relation
relation_of entry alias = record { id = entry.id; name = entry.name; alias = alias; columns = columns_of entry.def; on_conds = 0 }

-- as an item of a name behind others
abbrev pub scope_item : Entry → Text → Option Text → List ScopeItem → ScopeItem
scope_item entry name alias before = record { name = name; relation = relation_of entry alias; is_view = is_view entry.def; offset = width_of before }
