use Rattle.std.specs.Prelude.{Ok}
use Rattle.std.proofs.Common.{sym, subst}
use Rattle.sql_tokens.specs.Spelling.{TextSpells}
use Rattle.session_core.specs.Machine.{Performed, Reads}
use Rattle.session_core.proofs.Steps.{does_as}
use Rattle.session_core.proofs.machine.Machine.perform.Goals as goal

pub returns : goal.returns
returns t c =
    let spelt = subst (λ ts. TextSpells c.args.text.now (Ok ts)) (sym c.as_slice.ensures) c.in_ok-tokens.ensures.spelt in
    does_as (Reads c.args.self.now (Ok c.as_slice.result.now)) (Performed c.args.self.now c.args.text.now) _ _ _ c.perform_tokens.result (λ outcome p. (Ok c.as_slice.result.now, spelt, p)) c.perform_tokens.ensures
