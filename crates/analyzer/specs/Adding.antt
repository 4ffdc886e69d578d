-- What a function that adds to a list ensures: the list after it, or the refusal.
use Rattle.std.specs.Prelude.{◌≡◌, Result, Ok, Err}
use Rattle.q_base.specs.declared.errors.SqlError.{SqlError}
use Rattle.q_base.specs.declared.errors.Stop.{Stop}
use Rattle.q_base.specs.declared.errors.Stop.TheVariants.{Sql, NoMemory}

abbrev pub Adds : {A : Type 0} → Result A SqlError → Result (Unit {0}) Stop → A → Type 0
Adds expected (Ok u) new = expected ≡ Ok new
Adds expected (Err (Sql error)) new = expected ≡ Err error
Adds expected (Err NoMemory) new = Unit {0}
