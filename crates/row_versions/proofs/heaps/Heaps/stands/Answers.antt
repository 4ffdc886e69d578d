use Rattle.std.proofs.Common.{◌≤◌, ◌-◌, length, take, drop, ap, ◌∙◌, subst, arith}
use Rattle.std.specs.Prelude.{◌↔◌, IsTrue, All, reverse}
use Rattle.row_versions.specs.declared.heaps.Change.{Change}
use Rattle.row_versions.specs.Marks.{Mark}
use Rattle.row_versions.specs.State.{State}
use Rattle.row_versions.proofs.Stood.{stands_by}
use Rattle.row_versions.proofs.heaps.Heaps.stands.Goals as goal

pub returns : goal.returns
returns c =
    let items = c.as_slice-log.result.now in
    let newest = ap (λ (s : State). s.newest) c.self.view_is in
    let log = ap reverse c.as_slice-log.ensures.value ∙ ap (λ (s : State). s.log) c.self.view_is in
    let changes = ap (λ (m : Mark). m.changes) c.mark.view_is in
    let moment = ap (λ (m : Mark). m.moment) c.mark.view_is in
    let tells = subst (λ (m : Mark). IsTrue c.are_from.result ↔ All (λ (change : Change). m.moment ≤ change.moment) (take (length items - m.changes) (drop m.changes items))) c.mark.view_is c.are_from.ensures in
    stands_by _ c.args.self.now c.args.mark items log (omega (arith, changes, c.as_slice-log.ensures.len, c.len.ensures, c.if-len-mark.false)) (omega (arith, newest, moment, c.if-self-mark.false)) tells
