use Rattle.q_base.specs.declared.errors.SqlError.{SqlError}
use Rattle.q_base.specs.declared.errors.Stop.{Stop}
use Rattle.q_base.specs.declared.errors.Stop.TheVariants.{Sql, NoMemory}

-- a stop for another reason than memory is an error of which P holds
abbrev pub StopsBy : (SqlError → Type 0) → Stop → Type 0
StopsBy P (Sql error) = P error
StopsBy P NoMemory = Unit {0}
