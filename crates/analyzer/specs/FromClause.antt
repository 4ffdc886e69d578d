-- The items of FROM, and the conditions of ON.
use Rattle.std.specs.Prelude.{◌≡◌, ℕ, Bool, true, false, Result, Ok, Err, List, [], ◌∷◌, ◌++◌, length, take, drop, map, codes, if◌then◌else◌}
use Rattle.std.specs.Str.{bytes_eq}
use Rattle.q_base.specs.declared.errors.Stop.{Stop}
use Rattle.q_base.specs.declared.errors.Stop.TheVariants.{Sql, NoMemory}
use Rattle.q_base.specs.declared.ids.ObjId.{ObjId}
use Rattle.query_tree.specs.declared.query.Item.{Item}
use Rattle.query_tree.specs.declared.query.Item.TheVariants as item_of_query
use Rattle.query_tree.specs.declared.query.Relation.{Relation}
use Rattle.query_tree.specs.declared.target.Target.{Target}
use Rattle.sql_tree.specs.declared.select.FromChain.{FromChain}
use Rattle.sql_tree.specs.declared.select.Join.{Join}
use Rattle.sql_tree.specs.declared.select.Join.TheVariants as joined
use Rattle.cat_core.specs.declared.entry.Def.{Def}
use Rattle.cat_core.specs.declared.entry.Def.TheVariants as def
use Rattle.expr_analysis.specs.Nodes.{Text}
use Rattle.expr_analysis.specs.declared.scope.ScopeItem.{ScopeItem}
use Rattle.expr_analysis.specs.declared.state.Allowed.{Allowed}
use Rattle.expr_analysis.specs.declared.state.State.{State}
use Rattle.expr_analysis.specs.Analysis.{Outcome, Analysis, ◌>>=◌, pure}
use Rattle.expr_analysis.specs.Scopes.{◌⊕◌}
use Rattle.expr_analysis.specs.Sights.{Sight}
use Rattle.analyzer.specs.declared.from_clause.OnPart.{OnPart}
use Rattle.analyzer.specs.Clauses.{written_conjuncts}

-- ---- items

abbrev pub is_index : Def → Bool
is_index (def.Index index) = true
is_index (def.Table table) = false
is_index (def.View view) = false

abbrev pub is_named : Text → List ScopeItem → Bool
is_named name [] = false
is_named name (item ∷ items) = if bytes_eq item.name name then true else is_named name items

-- ---- ON

abbrev pub no_conds : OnPart
no_conds = record { conds = []; counts = [] }

-- with an item more and the conditions behind it
abbrev pub with_on : OnPart → List Target → OnPart
with_on part conds = record { conds = part.conds ++ conds; counts = part.counts ++ length conds ∷ [] }

-- the items from a number on, up to and with another
unfoldable pub seen_from : Sight → ℕ → ℕ → Sight
seen_from scope first last = record { first = first; items = drop first (take (last ⊕ 1) scope.items); width = scope.width }

abbrev pub join_conds : Sight → Allowed → Join → Analysis (List Target)
join_conds scope place (joined.Inner item condition) = written_conjuncts scope place (codes "ON") condition
join_conds scope place (joined.Cross item) = pure []

-- each condition of a chain sees the items of the chain so far
abbrev pub joins_on : Sight → Allowed → ℕ → OnPart → List Join → Analysis OnPart
joins_on scope place first part [] = pure part
joins_on scope place first part (join ∷ joins) =
    join_conds (seen_from scope first (length part.counts)) place join >>= (λ conds. joins_on scope place first (with_on part conds) joins)

unfoldable pub chain_on : Sight → Allowed → OnPart → FromChain → Analysis OnPart
chain_on scope place part chain = joins_on scope place (length part.counts) (with_on part []) chain.joins

abbrev pub on_from : Sight → Allowed → OnPart → List FromChain → Analysis OnPart
on_from scope place part [] = pure part
on_from scope place part (chain ∷ chains) = chain_on scope place part chain >>= (λ more. on_from scope place more chains)

-- what a function that analyses and adds to a part ensures
abbrev pub DoesAdd : {A : Type 0} → Outcome A → Result (Unit {0}) Stop → A → State → Type 0
DoesAdd outcome (Ok u) part new = outcome ≡ Ok (part, new)
DoesAdd outcome (Err (Sql error)) part new = outcome ≡ Err (error, new)
DoesAdd outcome (Err NoMemory) part new = Unit {0}

-- ---- the items of the query

abbrev pub with_count : ℕ → Relation → Relation
with_count count relation = record relation { on_conds = count }

abbrev pub query_item : ScopeItem → ℕ → Item
query_item item count = if item.is_view then item_of_query.View (with_count count item.relation) else item_of_query.Table (with_count count item.relation)

abbrev pub first_count : List ℕ → ℕ
first_count [] = 0
first_count (count ∷ counts) = count

abbrev pub other_counts : List ℕ → List ℕ
other_counts [] = []
other_counts (count ∷ counts) = counts

-- the items with how many conditions of ON stand behind each
abbrev pub query_items_from : List Item → List ScopeItem → List ℕ → List Item
query_items_from found [] counts = found
query_items_from found (item ∷ items) counts = query_items_from (found ++ query_item item (first_count counts) ∷ []) items (other_counts counts)

abbrev pub ids_of : List ScopeItem → List ObjId
ids_of items = map (λ item. item.relation.id) items
