use Rattle.std.proofs.Common.{rules, ◌∙◌, ap}
use Rattle.portals.proofs.Soundness.{sound-row, sound-end, sound-fault, room}
use Rattle.portals.proofs.cursor.Cursor.pull.Goals as goal

pub invariant_of-self-in-Some-Row : goal.invariant_of-self-in-Some-Row
invariant_of-self-in-Some-Row g c = sound-row _ _ _ _ _ _ _ _ c.next.new.self c.in-Some.feed c.self.inside.kept c.push.new.self c.in-Some-Row.row _ c.self.invariant (search rules) (search rules) (search rules) (search rules)

pub invariant_of-self-in-None : goal.invariant_of-self-in-None
invariant_of-self-in-None g c = sound-end _ _ _ _ _ _ _ _ c.in-Some.feed _ _ c.self.invariant (search rules) (search rules)

pub invariant_of-self-in-Some-Fault-2 : goal.invariant_of-self-in-Some-Fault-2
invariant_of-self-in-Some-Fault-2 g c =
    let same = c.self-in-Some-Fault.view_is ∙ c.fail.ensures in
    sound-fault _ _ _ _ _ _ _ _ _ _ c.self-in-Some-Fault.invariant (ap (λ s. s.failed) same)
    (rw (ap (λ s. s.reach) same) (room c.self.inside.feed c.in-Some.feed c.self.inside.reach (search rules) c.self.invariant.within))
