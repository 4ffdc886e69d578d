use Rattle.std.proofs.Common.{length, ap, arith}
use Rattle.std.proofs.lemmas.List.{length-reverse}
use Rattle.savepoints.specs.Settings.{SettingsState, earlier}
use Rattle.savepoints.proofs.Marks.{length_of_copies}
use Rattle.savepoints.proofs.settings.Settings.mark.Goals as goal

pub returns-clause-mark : goal.returns-clause-mark
returns-clause-mark c = omega (arith, ap (λ (s : SettingsState). length s.past) c.self.view_is, length_of_copies, length-reverse c.self.inside.log.items)

pub returns-clause-stands : goal.returns-clause-stands
returns-clause-stands c = omega (arith, ap (λ (s : SettingsState). length s.past) c.self.view_is, length_of_copies, length-reverse c.self.inside.log.items)

pub returns-clause-names : goal.returns-clause-names
returns-clause-names c =
    let now = c.args.self.now in
    ap (λ n. earlier n now.values now.past) {y = 0} (omega (arith, ap (λ (s : SettingsState). length s.past) c.self.view_is, length_of_copies, length-reverse c.self.inside.log.items))
