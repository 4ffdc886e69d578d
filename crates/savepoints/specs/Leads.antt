use Rattle.std.specs.Prelude.{◌≡◌, Result, Ok, Err}
use Rattle.q_base.specs.declared.errors.SqlError.{SqlError}
use Rattle.q_base.specs.declared.errors.Stop.{Stop}
use Rattle.q_base.specs.declared.errors.Stop.TheVariants.{Sql, NoMemory}

-- a call leads to the state that is expected, is refused as expected, or stops for want of memory
abbrev pub LeadsTo : {S A : Type 0} → Result S SqlError → S → Result A Stop → Type 0
LeadsTo expected new (Ok a) = expected ≡ Ok new
LeadsTo expected new (Err (Sql error)) = expected ≡ Err error
LeadsTo expected new (Err NoMemory) = Unit {0}
