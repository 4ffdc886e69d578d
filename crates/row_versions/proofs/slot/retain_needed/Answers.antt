use Rattle.std.proofs.Common.{◌∷◌, rules}
use Rattle.std.proofs.lemmas.Fn.{filter_same}
use Rattle.row_versions.specs.Versions.{is_needed}
use Rattle.row_versions.proofs.slot.retain_needed.Goals as goal

pub returns : goal.returns
returns c = filter_same _ (is_needed (c.args.newest ∷ c.args.pins.now)) _ (λ x b f k. search rules) _ _ c.retain.ensures.filtered
