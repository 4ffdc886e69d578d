use Rattle.std.specs.Prelude.{◌≡◌, Result, Ok, Err}
use Rattle.q_base.specs.declared.errors.SqlError.{SqlError}
use Rattle.q_base.specs.declared.errors.Stop.{Stop}
use Rattle.q_base.specs.declared.errors.Stop.TheVariants.{Sql, NoMemory}

-- a call gives what is expected, or stops for want of memory
abbrev pub Answers : {A : Type 0} → Result A SqlError → Result A Stop → Type 0
Answers expected (Ok a) = expected ≡ Ok a
Answers expected (Err (Sql error)) = expected ≡ Err error
Answers expected (Err NoMemory) = Unit {0}
