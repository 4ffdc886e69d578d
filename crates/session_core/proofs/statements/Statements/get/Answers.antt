use Rattle.std.proofs.Common.{sym, ap, ◌∙◌}
use Rattle.std.specs.Option.{option_map}
use Rattle.session_core.specs.Prepared.{kept}
use Rattle.session_core.specs.Seen.{found_in}
use Rattle.session_core.proofs.Entries.{kept-lookup}
use Rattle.session_core.proofs.statements.Statements.get.Goals as goal

pub returns : goal.returns
returns c =
    ap (option_map found_in) c.get.ensures.value ∙ (sym (kept-lookup c.self.inside.by_name.entries c.args.name.now) ∙ ap (λ s. kept s c.args.name.now) c.self.view_is)
