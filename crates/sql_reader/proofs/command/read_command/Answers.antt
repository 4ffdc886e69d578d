use Rattle.sql_reader.proofs.CommandAgreement.{reading}
use Rattle.sql_reader.proofs.command.read_command.Goals as goal

pub returns : goal.returns
returns c = reading c.args.tokens.now c.command_by_steps.result c.command_by_steps.ensures
