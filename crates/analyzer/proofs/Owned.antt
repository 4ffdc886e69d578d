-- A loop that takes the elements of a list one by one, and what it gives for each.
use Rattle.std.proofs.Common.{◌≡◌, ℕ, List, [], ◌∷◌, ◌++◌, ◌+◌, length, refl, sym, ap, subst, ◌∙◌, arith}
use Rattle.q_value.specs.declared.value.SqlType.{SqlType}
use Rattle.analyzer.specs.Queries.{split_from}
use Rattle.analyzer.specs.declared.outputs.Output.{Output}
use Rattle.analyzer.specs.declared.queries.Split.{Split}
use Rattle.analyzer.specs.FromClause.{query_item, first_count, other_counts, query_items_from}
use Rattle.expr_analysis.specs.declared.scope.ScopeItem.{ScopeItem}
use Rattle.query_tree.specs.declared.query.Item.{Item}
use Rattle.query_tree.specs.declared.result.ResultColumn.{ResultColumn}
use Rattle.query_tree.specs.declared.target.Target.{Target}
use Rattle.query_tree.specs.Targets.{target_kind}

pub nothing_left : {X : Type 0} (l : List X) → length l ≡ 0 → l ≡ []
nothing_left [] h = refl
nothing_left (x ∷ xs) h = absurd (omega arith)

pub one_taken : {X : Type 0} (before after : ℕ) (items rest : List X) (x : X) → items ≡ x ∷ rest → before ≡ length items → after + 1 ≡ before → after ≡ length rest
one_taken before after items rest x steps was gone = let short = ap length steps in omega arith

abbrev pub split_so_far : List Target → List ResultColumn → List Output → Split
split_so_far targets columns outputs = split_from (record { targets = targets; columns = columns }) outputs

pub split_more : (targets targets2 : List Target) (columns columns2 : List ResultColumn) (items rest : List Output) (output : Output) (kind : SqlType) (whole : Split)
    → items ≡ output ∷ rest → kind ≡ target_kind output.target → targets2 ≡ targets ++ output.target ∷ [] → columns2 ≡ columns ++ record { name = output.name; kind = kind } ∷ []
    → split_so_far targets columns items ≡ whole → split_so_far targets2 columns2 rest ≡ whole
split_more targets targets2 columns columns2 items rest output kind whole steps is pushed pushed2 so_far =
    subst (λ ts. split_so_far ts columns2 rest ≡ whole) (sym pushed)
    (subst (λ cs. split_so_far (targets ++ output.target ∷ []) cs rest ≡ whole) (sym pushed2)
    (subst (λ k. split_so_far (targets ++ output.target ∷ []) (columns ++ record { name = output.name; kind = k } ∷ []) rest ≡ whole) (sym is)
    (subst (λ xs. split_so_far targets columns xs ≡ whole) steps so_far)))

pub split_done : (targets : List Target) (columns : List ResultColumn) (items : List Output) (whole : Split)
    → length items ≡ 0 → split_so_far targets columns items ≡ whole → record { targets = targets; columns = columns } ≡ whole
split_done targets columns items whole none so_far = subst (λ xs. split_so_far targets columns xs ≡ whole) (nothing_left items none) so_far

pub snoc_append : {X : Type 0} (xs rest : List X) (x : X) → (xs ++ x ∷ []) ++ rest ≡ xs ++ x ∷ rest
snoc_append [] rest x = refl
snoc_append (y ∷ xs) rest x = ap (λ l. y ∷ l) (snoc_append xs rest x)

pub append_nil : {X : Type 0} (xs : List X) → xs ++ [] ≡ xs
append_nil [] = refl
append_nil (x ∷ xs) = ap (λ l. x ∷ l) (append_nil xs)

pub append_more : {X : Type 0} (all all2 items rest whole : List X) (x : X) → items ≡ x ∷ rest → all2 ≡ all ++ x ∷ [] → all ++ items ≡ whole → all2 ++ rest ≡ whole
append_more all all2 items rest whole x steps pushed so_far =
    subst (λ ys. ys ++ rest ≡ whole) (sym pushed) (snoc_append all rest x ∙ subst (λ ys. all ++ ys ≡ whole) steps so_far)

pub append_done : {X : Type 0} (all items whole : List X) → length items ≡ 0 → all ++ items ≡ whole → all ≡ whole
append_done all items whole none so_far = sym (append_nil all) ∙ subst (λ ys. all ++ ys ≡ whole) (nothing_left items none) so_far

pub items_more : (found found2 : List Item) (items rest : List ScopeItem) (counts others : List ℕ) (item : ScopeItem) (count : ℕ) (one : Item) (whole : List Item)
    → items ≡ item ∷ rest → count ≡ first_count counts → one ≡ query_item item count → found2 ≡ found ++ one ∷ [] → others ≡ other_counts counts
    → query_items_from found items counts ≡ whole → query_items_from found2 rest others ≡ whole
items_more found found2 items rest counts others item count one whole steps counted is pushed short so_far =
    subst (λ fs. query_items_from fs rest others ≡ whole) (sym pushed)
    (subst (λ cs. query_items_from (found ++ one ∷ []) rest cs ≡ whole) (sym short)
    (subst (λ o. query_items_from (found ++ o ∷ []) rest (other_counts counts) ≡ whole) (sym is)
    (subst (λ n. query_items_from (found ++ query_item item n ∷ []) rest (other_counts counts) ≡ whole) (sym counted)
    (subst (λ xs. query_items_from found xs counts ≡ whole) steps so_far))))

pub items_done : (found : List Item) (items : List ScopeItem) (counts : List ℕ) (whole : List Item)
    → length items ≡ 0 → query_items_from found items counts ≡ whole → found ≡ whole
items_done found items counts whole none so_far = subst (λ xs. query_items_from found xs counts ≡ whole) (nothing_left items none) so_far
