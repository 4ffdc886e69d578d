use Rattle.std.proofs.Common.{◌≡◌, ℕ, cond, List, [], ◌∷◌, Some, map, nat_cmp, ap, refl, ◌∙◌}
use Rattle.std.specs.Borrow.{Bor}
use Rattle.std.specs.Cmp.Lexicographic.{slice_cmp}
use Rattle.std.specs.Map.{lookup}
use Rattle.std.specs.Str.{bytes_eq}
use Rattle.std.proofs.lemmas.Map.Text.{is_eq-slice_cmp}
use Rattle.q_base.specs.Tables.{value_of}
use Rattle.sql_reader.specs.Leading.{keyword_of}
use Rattle.sql_reader.proofs.leading.keyword_of.Goals as goal

-- what a table of words has for one of them
value_of-words : {V : Type 0} (word : Bor (List ℕ)) (rows : List (Bor (List ℕ) × V))
    → value_of (λ a b. slice_cmp nat_cmp a.now b.now) word rows ≡ lookup (λ known. bytes_eq known word.now) (map (λ row. (row.0.now, row.1)) rows)
value_of-words word [] = refl
value_of-words word (row ∷ rows) =
    rw (is_eq-slice_cmp row.0.now word.now) (ap (λ rest. cond (bytes_eq row.0.now word.now) (Some row.1) rest) (value_of-words word rows))

pub returns : goal.returns
unfolding keyword_of
returns c =
    let by_word = value_of-words c.args.word c.new-table.result.rows.now in
    let by_list = ap (λ rows. lookup (λ known. bytes_eq known c.args.word.now) (map (λ row. (row.0.now, row.1)) rows)) c.new-table.ensures in
    c.copied.ensures ∙ (c.find.ensures.value ∙ (by_word ∙ by_list))
