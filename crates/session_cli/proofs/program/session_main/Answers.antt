use Rattle.std.proofs.Common.{map, IfSome}
use Rattle.std.specs.String.{string_bytes}
use Rattle.session_cli.specs.declared.status.Status.TheVariants as status
use Rattle.session_cli.specs.Headline.{Outcome}
use Rattle.session_cli.specs.Words.{options_of}
use Rattle.session_cli.proofs.Course.{told, nothing_run}
use Rattle.session_cli.proofs.Pieces.{Appends-none}
use Rattle.session_cli.proofs.program.session_main.Goals as goal

pub returns-in-Err-NoMemory-clause-outcome : goal.returns-in-Err-NoMemory-clause-outcome
returns-in-Err-NoMemory-clause-outcome g c =
    let left = g.S.Source.left c.args.source.now in
    let written = g.K.Sink.written c.args.sink.now in
    told {P = λ options. IfSome left (λ script. Outcome status.NoMemory options script left written written)} (options_of (map string_bytes c.args.words.now)) (λ options e.
    told {P = λ script. Outcome status.NoMemory options script left written written} left (λ script e2. nothing_run options script left written (Appends-none written)))
