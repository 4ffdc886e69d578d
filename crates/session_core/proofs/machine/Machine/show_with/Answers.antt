use Rattle.std.proofs.Common.{◌≡◌, ◌++◌, ℕ, List, Err, subst}
use Rattle.session_core.specs.Settings.{ShowsAfter, shown_lines}
use Rattle.session_core.specs.State.{State, Does}
use Rattle.session_core.proofs.Steps.{prints_done, prints_refused}
use Rattle.session_core.proofs.machine.Machine.show_with.Goals as goal
use Rattle.session_core.proofs.machine.Machine.show_with.Goals.{in-Ok+in_ok-one_text-in-Ok, in-Err}

pub returns : goal.returns
returns c = elim c.match-text.branch [
  | in-Ok+in_ok-one_text-in-Ok w ↦
      let appended : w.one_text.new.out.items ≡ c.args.out.now.items ++ shown_lines c.args.name.now c.text.new.out.items = subst (λ (value : List ℕ). w.one_text.new.out.items ≡ c.args.out.now.items ++ shown_lines c.args.name.now value) w.as_slice.ensures.value w.in_ok-one_text-in-Ok.ensures in
      rw (w.out-is, w.result-is, ← c.self.view_is) (prints_done c.args.out.now.items w.one_text.new.out.items _ _ c.text.new.out.items (shown_lines c.args.name.now) w.in-Ok.ensures.text appended)
  | in-Err w ↦
      rw (w.out-is, w.result-is) (subst (λ (state : State). Does (ShowsAfter state c.args.value.now.items c.args.name.now) c.args.out.now.items c.args.out.now.items state (Err w.in-Err.stop)) c.self.view_is (prints_refused c.args.out.now.items _ _ c.text.new.out.items _ w.in-Err.stop w.in-Err.ensures.text))
]
