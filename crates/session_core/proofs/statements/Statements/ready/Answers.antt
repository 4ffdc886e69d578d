use Rattle.std.proofs.Common.{rules, refl, ◌∙◌}
use Rattle.session_core.proofs.Entries.{statements_of-set}
use Rattle.session_core.proofs.statements.Statements.ready.Goals as goal

pub returns : goal.returns
returns g c = statements_of-set c.self.inside.by_name.entries c.in-Some.at c.in-Some-get_index_mut.kept.now _ (search rules) refl ∙ c.self.view_is
