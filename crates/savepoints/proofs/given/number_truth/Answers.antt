use Rattle.std.proofs.Common.{sym}
use Rattle.q_value.specs.Parse.{bare_text, integer_of}
use Rattle.savepoints.proofs.Numbers.{no_truth}
use Rattle.savepoints.proofs.given.number_truth.Goals as goal

pub returns-in-Err-Sql : goal.returns-in-Err-Sql
returns-in-Err-Sql c =
    let text = c.args.text.now in
    sym (no_truth text (integer_of (bare_text text)) c.in-Err-Sql.field-0-0 (rw c.in-Err-Sql.field-0-is at c.in-Err-Sql.ensures.parsed))
