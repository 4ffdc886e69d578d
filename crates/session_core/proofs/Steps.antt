-- A call that is a case, as one of another case.
use Rattle.std.proofs.Common.{◌≡◌, ◌++◌, refl, sym, ap}
use Rattle.std.specs.Prelude.{ℕ, List, Result, Ok, Err}
use Rattle.q_base.specs.declared.errors.SqlError.{SqlError}
use Rattle.q_base.specs.declared.errors.Stop.{Stop}
use Rattle.q_base.specs.declared.errors.Stop.TheVariants.{Sql, NoMemory}
use Rattle.q_base.specs.Stops.{StopsBy}
use Rattle.savepoints.specs.Leads.{LeadsTo}
use Rattle.session_core.specs.Arguments.{and_then}
use Rattle.session_core.specs.State.{State, Case, Does, Prints}

-- what is said of how the call ended, said in other words
pub does_as : (one other : Case) (before after : List ℕ) (state2 : State) (result : Result (Unit {0}) Stop) → ((outcome : Result (List ℕ) SqlError) → one outcome state2 → other outcome state2) → Does one before after state2 result → Does other before after state2 result
does_as one other before after state2 (Ok done) f p = (p.0, p.1, f (Ok p.0) p.2)
does_as one other before after state2 (Err (Sql error)) f p = (p.0, f (Err error) p.1)
does_as one other before after state2 (Err NoMemory) f p = tt

-- a refusal that was met before anything was written or changed
pub does_refuse : (P : SqlError → Type 0) (case : Case) (before : List ℕ) (state : State) (stop : Stop) → ((error : SqlError) → P error → case (Err error) state) → StopsBy P stop → Does case before before state (Err stop)
does_refuse P case before state (Sql error) f p = (refl, f error p)
does_refuse P case before state NoMemory f p = tt

-- a refusal of what was to be printed
pub prints_refused : {S : Type 0} (before : List ℕ) (state : State) (expected : Result S SqlError) (new : S) (next : S → Result (List ℕ) SqlError) (stop : Stop) → LeadsTo {A = Unit {0}} expected new (Err stop) → Does (Prints state (and_then expected next)) before before state (Err stop)
prints_refused before state expected new next (Sql error) leads = (refl, (sym (ap (λ r. and_then r next) leads), refl))
prints_refused before state expected new next NoMemory leads = tt

-- what was to be printed is appended
pub prints_done : {S : Type 0} (before after : List ℕ) (state : State) (expected : Result S SqlError) (new : S) (text : S → List ℕ) → expected ≡ Ok new → after ≡ before ++ text new → Does (Prints state (and_then expected (λ s. Ok (text s)))) before after state (Ok tt)
prints_done before after state expected new text leads appended = (text new, appended, (sym (ap (λ r. and_then r (λ s. Ok (text s))) leads), refl))
