-- What a statement becomes where its views are replaced.
use Rattle.std.specs.Prelude.{◌≡◌, ◌⊎◌, ℕ, Bool, true, false, List, [], map, length, fold}
use Rattle.std.specs.List.{list_any}
use Rattle.q_base.specs.declared.code.Code.TheVariants.{StackDepthExceeded, LimitExceeded}
use Rattle.q_base.specs.declared.errors.SqlError.{SqlError}
use Rattle.query_tree.specs.declared.query.Item.{Item, out-Item}
use Rattle.query_tree.specs.declared.query.Item.TheOpen.{Item-F}
use Rattle.query_tree.specs.declared.query.Query.{Query}
use Rattle.query_tree.specs.declared.statement.Bound.{Bound}
use Rattle.query_tree.specs.declared.statement.Bound.TheVariants as bound
use Rattle.query_tree.specs.Items.{relation_of}
use Rattle.view_rewrite.specs.declared.changed.Meaning.{Meaning}
use Rattle.view_rewrite.specs.Changed.{behind, changed, changed_aggregate, changed_key}

abbrev pub is_view_head : {A B : Type 0} → Item-F A B → Bool
is_view_head (Item-F.Table relation) = false
is_view_head (Item-F.View relation) = true
is_view_head (Item-F.Derived relation block) = false

abbrev pub is_view : Item → Bool
is_view item = is_view_head (out-Item item)

abbrev pub names_view : List Item → Bool
names_view items = list_any is_view items

-- a statement that is written anew
abbrev pub is_rewritten : Bound → Bool
is_rewritten (bound.Select query) = names_view query.items
is_rewritten (bound.Insert insert) = false
is_rewritten (bound.Update update) = false
is_rewritten (bound.Delete delete) = false

abbrev pub with_columns : ℕ → Item → ℕ
with_columns width item = behind width (length (relation_of item).columns)

-- the length of a row of the items' product
abbrev pub row_width : List Item → ℕ
row_width items = fold with_columns 0 items

-- one meaning for each item changes all expressions of a query, and the values of aggregates stand behind the new items;
-- what else a query says stays
pub record IsReplaced (query block : Query) : Type 0 where
  pub meanings : List Meaning
  pub one_each : length meanings ≡ length query.items
  pub targets : block.targets ≡ map (changed meanings (row_width block.items)) query.targets
  pub order : block.order ≡ map (changed_key meanings (row_width block.items)) query.order
  pub keys : block.keys ≡ map (changed meanings (row_width block.items)) query.keys
  pub aggregates : block.aggregates ≡ map (changed_aggregate meanings (row_width block.items)) query.aggregates
  pub having : block.having ≡ map (changed meanings (row_width block.items)) query.having
  pub grouped : block.grouped ≡ query.grouped
  pub calls : block.aggregate_calls ≡ query.aggregate_calls
  pub distinct : block.distinct ≡ query.distinct
  pub limit : block.limit ≡ query.limit
  pub offset : block.offset ≡ query.offset

abbrev pub Replaces : Bound → Bound → Type 0
Replaces (bound.Select query) (bound.Select block) = IsReplaced query block
Replaces old new = new ≡ old

-- the refusal of a depth or of a width
abbrev pub IsLimit : SqlError → Type 0
IsLimit e = (e ≡ record { code = StackDepthExceeded; args = [] }) ⊎ (e ≡ record { code = LimitExceeded; args = [] })
