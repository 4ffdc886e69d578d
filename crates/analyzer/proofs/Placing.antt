-- A table's columns by their places.
use Rattle.std.proofs.Common.{◌≡◌, ℕ, suc, ◌+◌, ◌-◌, ◌<◌, Option, List, [], ◌∷◌, ◌++◌, sym, subst, ◌∙◌, arith}
use Rattle.query_tree.specs.declared.result.ResultColumn.{ResultColumn}
use Rattle.cat_core.specs.declared.entry.Column.{Column}
use Rattle.analyzer.specs.Relations.{column_at, behind_id, placed_from}
use Rattle.analyzer.proofs.Owned.{snoc_append}

pub placed_more : (found found2 : List (Option ResultColumn)) (places id : ℕ) (rest others : List Column) (one : Option ResultColumn) (whole : List (Option ResultColumn))
    → id < places → one ≡ column_at id rest → found2 ≡ found ++ one ∷ [] → others ≡ behind_id id rest
    → found ++ placed_from (places - id) id rest ≡ whole → found2 ++ placed_from (places - (id + 1)) (id + 1) others ≡ whole
placed_more found found2 places id rest others one whole below is pushed short so_far =
    let turn : places - id ≡ suc (places - (id + 1)) = omega arith in
    subst (λ fs. fs ++ placed_from (places - (id + 1)) (id + 1) others ≡ whole) (sym pushed)
    (subst (λ os. (found ++ one ∷ []) ++ placed_from (places - (id + 1)) (id + 1) os ≡ whole) (sym short)
    (subst (λ o. (found ++ o ∷ []) ++ placed_from (places - (id + 1)) (id + 1) (behind_id id rest) ≡ whole) (sym is)
    (snoc_append found _ _ ∙ subst (λ n. found ++ placed_from n id rest ≡ whole) turn so_far)))
