use Rattle.std.proofs.Common.{◌∙◌, sym, ap}
use Rattle.query_tree.specs.declared.query.Query.{Query}
use Rattle.cat_deps.specs.Naming as spec
use Rattle.cat_deps.proofs.naming.names_it.Goals as goal

pub returns-in-View : goal.returns-in-View
returns-in-View c = c.query_names.ensures ∙ ap (λ (q : Query). spec.query_names c.args.named q) c.deref.ensures ∙ sym (ap (spec.def_names c.args.named) c.in-View.is)
