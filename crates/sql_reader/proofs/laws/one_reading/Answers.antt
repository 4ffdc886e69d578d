use Rattle.sql_reader.proofs.CommandAgreement.{is-exactly, one_read}
use Rattle.sql_reader.proofs.laws.one_reading.Goals as goal

pub returns-clause-exact : goal.returns-clause-exact
returns-clause-exact c = is-exactly

pub returns-clause-once : goal.returns-clause-once
returns-clause-once c = one_read
