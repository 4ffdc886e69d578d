use Rattle.std.proofs.Common.{length, ap, arith}
use Rattle.std.proofs.lemmas.List.{length-reverse}
use Rattle.savepoints.specs.Settings.{SettingsState}
use Rattle.savepoints.proofs.Marks.{length_of_copies}
use Rattle.savepoints.proofs.settings.Settings.stands.Goals as goal

pub returns : goal.returns
returns c = grind (arith, c.mark.view_is, ap (λ (s : SettingsState). length s.past) c.self.view_is, length_of_copies, length-reverse c.self.inside.log.items)
