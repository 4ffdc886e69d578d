use Rattle.std.proofs.Common.{◌≡◌, ◌-◌, length, sym, ap, ◌∙◌, subst, arith}
use Rattle.std.proofs.lemmas.List.{length-reverse}
use Rattle.row_versions.specs.Marks.{Mark}
use Rattle.row_versions.specs.Sound.{IsLog}
use Rattle.row_versions.specs.State.{State, KeepsRows, KeepsPinned, KeepsMark, at_mark, back}
use Rattle.row_versions.proofs.Undone.{back_slots, back_tables, back_older, back_pinned, back_marks}
use Rattle.row_versions.proofs.heaps.Heaps.rollback_to.Goals as goal

pub returns-clause-slots : goal.returns-clause-slots
returns-clause-slots c = rw c.undo.ensures (back_slots (c.len.result - c.mark.inside.changes) c.args.self.now)

pub returns-clause-older : goal.returns-clause-older
returns-clause-older c =
    let now = c.args.self.now in
    let mark = c.args.mark in
    let is : c.undo.new.self ≡ at_mark now mark = c.undo.ensures ∙ ap (λ n. back n now) (omega (arith, ap (λ (m : Mark). m.changes) c.mark.view_is, ap (λ (s : State). length s.log) c.self.view_is, length-reverse c.self.inside.log.items)) in
    let logged = subst (λ (s : State). IsLog s.newest s.tables s.log) c.self.view_is c.self.invariant.logged in
    λ snap lt. subst (λ (s : State). KeepsRows now s snap) (sym is) (back_older now mark snap logged c.requires.stands lt)

pub returns-clause-pinned : goal.returns-clause-pinned
returns-clause-pinned c =
    let now = c.args.self.now in
    let mark = c.args.mark in
    let is : c.undo.new.self ≡ at_mark now mark = c.undo.ensures ∙ ap (λ n. back n now) (omega (arith, ap (λ (m : Mark). m.changes) c.mark.view_is, ap (λ (s : State). length s.log) c.self.view_is, length-reverse c.self.inside.log.items)) in
    let logged = subst (λ (s : State). IsLog s.newest s.tables s.log) c.self.view_is c.self.invariant.logged in
    subst (λ (s : State). KeepsPinned now s) (sym is) (back_pinned now mark logged c.requires.stands c.requires.pins)

pub returns-clause-marks : goal.returns-clause-marks
returns-clause-marks c =
    let now = c.args.self.now in
    let mark = c.args.mark in
    let is : c.undo.new.self ≡ at_mark now mark = c.undo.ensures ∙ ap (λ n. back n now) (omega (arith, ap (λ (m : Mark). m.changes) c.mark.view_is, ap (λ (s : State). length s.log) c.self.view_is, length-reverse c.self.inside.log.items)) in
    λ earlier le stands. subst (λ (s : State). KeepsMark now s earlier) (sym is) (back_marks now mark earlier c.requires.stands.within le stands)

pub returns-clause-tables : goal.returns-clause-tables
returns-clause-tables c = rw c.undo.ensures (back_tables (c.len.result - c.mark.inside.changes) c.args.self.now)
