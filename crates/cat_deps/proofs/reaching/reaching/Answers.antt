use Rattle.std.proofs.Common.{◌≡◌, ap, length, List, arith}
use Rattle.q_base.specs.declared.ids.ObjId.{ObjId}
use Rattle.cat_core.specs.Finding.{entries}
use Rattle.cat_deps.proofs.Rounds.{all_dependents}
use Rattle.cat_deps.proofs.reaching.reaching.Goals as goal

pub returns-then-as_slice-before : goal.returns-then-as_slice-before
returns-then-as_slice-before c =
    let grown = c.in_ok-add_naming.ensures in
    let before : length c.as_slice-before.result.now ≡ length c.loop-turn.found = ap (λ (xs : List ObjId). length xs) c.as_slice-before.ensures.ids in
    let after : length c.as_slice.result.now ≡ length c.add_naming.new.found = ap (λ (xs : List ObjId). length xs) c.as_slice.ensures.ids in
    all_dependents (entries c.args.views.now) c.args.id c.add_naming.new.found (grown.sound c.loop-turn.invariant) (grown.closed (omega (arith, before, after)))

pub loop-turn-preserved : goal.loop-turn-preserved
loop-turn-preserved c = c.in_ok-add_naming.ensures.sound c.loop-turn.invariant
