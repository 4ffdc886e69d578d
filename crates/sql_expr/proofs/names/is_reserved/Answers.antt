use Rattle.std.proofs.Common.{ap, map, ◌∙◌}
use Rattle.std.specs.Prelude.{is_some}
use Rattle.std.specs.List.{list_any}
use Rattle.std.specs.Str.{bytes_eq}
use Rattle.sql_expr.specs.Names.{is_reserved}
use Rattle.sql_expr.proofs.NameLemmas.{is_some-copied, value_of-words}
use Rattle.sql_expr.proofs.names.is_reserved.Goals as goal

pub returns : goal.returns
unfolding is_reserved
returns c =
    let by_word = value_of-words c.args.word c.new-table.result.rows.now in
    let by_list = ap (λ rows. list_any (λ known. bytes_eq known c.args.word.now) (map (λ row. row.0.now) rows)) c.new-table.ensures in
    c.is_some.ensures ∙ (is_some-copied c.find.result ∙ (ap is_some c.find.ensures.value ∙ (by_word ∙ by_list)))
