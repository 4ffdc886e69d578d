use Rattle.std.proofs.Common.{rules}
use Rattle.portals.proofs.Soundness.{sound-forget}
use Rattle.portals.proofs.cursor.Cursor.forget.Goals as goal

pub invariant_of-self : goal.invariant_of-self
invariant_of-self g c = sound-forget _ _ _ _ _ _ _ _ _ _ _ c.self.invariant (search rules) (search rules) (search rules)
