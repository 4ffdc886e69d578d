use Rattle.std.proofs.Common.{sym}
use Rattle.q_value.proofs.Integers.{numeral, no_integer}
use Rattle.q_value.proofs.texts.narrowed.Goals as goal

pub returns-in-Err-clause-value : goal.returns-in-Err-clause-value
returns-in-Err-clause-value c = sym (no_integer c.args.to _ (λ fits. c.in-Err.ensures.value.0 (numeral c.args.bare.now c.requires, fits)))
