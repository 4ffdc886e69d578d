use Rattle.sql_reader.proofs.Examples.{examples}
use Rattle.sql_reader.proofs.laws.examples.Goals as goal

pub returns : goal.returns
returns c = examples
