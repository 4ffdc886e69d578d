use Rattle.std.proofs.Common.{◌≡◌, length, sym, ap, ◌∙◌, subst, arith}
use Rattle.std.proofs.lemmas.List.{length-reverse}
use Rattle.savepoints.specs.Settings.{SettingsState, KeepsMark, at_mark, back}
use Rattle.savepoints.proofs.Marks.{length_of_copies, back_marks}
use Rattle.savepoints.proofs.settings.Settings.rollback_to.Goals as goal

pub overflow_sub-since : goal.overflow_sub-since
overflow_sub-since c = omega (arith, c.mark.view_is, ap (λ (s : SettingsState). length s.past) c.self.view_is, length_of_copies, length-reverse c.self.inside.log.items)

pub returns-clause-state : goal.returns-clause-state
returns-clause-state c =
    c.undo.ensures ∙ ap (λ n. back n c.args.self.now) (omega (arith, c.mark.view_is, ap (λ (s : SettingsState). length s.past) c.self.view_is, length_of_copies, length-reverse c.self.inside.log.items))

pub returns-clause-marks : goal.returns-clause-marks
returns-clause-marks c =
    let now = c.args.self.now in
    let mark = c.args.mark in
    let is : c.undo.new.self ≡ at_mark now mark = c.undo.ensures ∙ ap (λ n. back n now) (omega (arith, c.mark.view_is, ap (λ (s : SettingsState). length s.past) c.self.view_is, length_of_copies, length-reverse c.self.inside.log.items)) in
    λ earliest le. subst (λ (s : SettingsState). KeepsMark now s earliest) (sym is) (back_marks now mark earliest c.requires le)
