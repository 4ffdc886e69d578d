use Rattle.std.proofs.Common.{ap, map, ◌∙◌}
use Rattle.expr_analysis.specs.Types.{type_named, type_in}
use Rattle.expr_analysis.proofs.TypeNames.{named, value_of-types}
use Rattle.expr_analysis.proofs.types.type_named.Goals as goal

pub returns : goal.returns
unfolding type_named
returns c =
    let by_name = value_of-types c.args.name c.new-table.result.rows.now in
    let by_rows = ap (λ rows. type_in c.args.name.now (map named rows)) c.new-table.ensures in
    c.copied.ensures ∙ (c.find.ensures.value ∙ (by_name ∙ by_rows))
