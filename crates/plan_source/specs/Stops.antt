-- What stops a use.
use Rattle.q_base.specs.declared.errors.Stop.{Stop}
use Rattle.q_base.specs.declared.errors.Stop.TheVariants.{Sql, NoMemory}
use Rattle.plan_source.specs.declared.source.SourceStop.{SourceStop}
use Rattle.plan_source.specs.declared.source.SourceStop.TheVariants as stop

abbrev pub source_stop : Stop → SourceStop
source_stop (Sql error) = stop.Sql error
source_stop NoMemory = stop.NoMemory
