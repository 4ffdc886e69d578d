use Rattle.sql_reader.proofs.CommandAgreement.{one_spelt}
use Rattle.sql_reader.proofs.laws.one_command.Goals as goal

pub returns : goal.returns
returns c = one_spelt
