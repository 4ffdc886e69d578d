use Rattle.std.specs.Prelude.{◌≡◌, ℕ, List, [], ◌++◌, Option, Result, Ok, Err}
use Rattle.q_base.specs.declared.errors.SqlError.{SqlError}
use Rattle.q_base.specs.declared.errors.Stop.{Stop}
use Rattle.q_base.specs.declared.errors.Stop.TheVariants.{Sql, NoMemory}
use Rattle.q_base.specs.declared.settings.Mode.{Mode}
use Rattle.analyzer.specs.Statements.{Found}
use Rattle.savepoints.specs.Blocks.{failed}
use Rattle.savepoints.specs.Settings.{SettingsState, begun, committed}
use Rattle.savepoints.specs.declared.transaction.Block.{Block}
use Rattle.savepoints.specs.declared.transaction.Block.TheVariants as block
use Rattle.result_text.specs.Messages.{error_line}
use Rattle.session_core.specs.declared.session.Done.{Done}
use Rattle.session_core.specs.declared.session.Done.TheVariants as done

-- a prepared statement: its name, and of one that needs no table what its analysis found
pub record Statement : Type 0 where
  pub name : List ℕ
  pub found : Option Found

-- what contracts see of a session: its settings, the status of its block, and its statements in order of making. (Its catalog, rows
-- and cursors are there and not seen yet.)
pub record State : Type 0 where
  pub settings : SettingsState
  pub block : Block
  pub statements : List Statement

abbrev pub empty_state : Mode → State
empty_state mode = record { settings = begun mode; block = block.Idle; statements = [] }

-- how a command may end: with a text that it prints, or refused; and the state that it leads to
abbrev pub Case : Type 1
Case = Result (List ℕ) SqlError → State → Type 0

-- a command of which nothing is said yet
abbrev pub Unstated : Case
Unstated outcome state2 = Unit {0}

-- it prints a text and leads to a state, or is refused and changes nothing
abbrev pub Leads : State → Result (List ℕ × State) SqlError → Case
Leads state (Ok expected) outcome state2 = (outcome ≡ Ok expected.0) × (state2 ≡ expected.1)
Leads state (Err error) outcome state2 = (outcome ≡ Err error) × (state2 ≡ state)

-- it prints a text or is refused, and changes nothing
abbrev pub Prints : State → Result (List ℕ) SqlError → Case
Prints state expected outcome state2 = (outcome ≡ expected) × (state2 ≡ state)

-- a text was appended
abbrev pub Appends : List ℕ → List ℕ → Type 0
Appends before after = (text : List ℕ) × (after ≡ before ++ text)

-- a call that appends its text to what was written, and appends nothing where it is refused, is such a case
abbrev pub Does : Case → List ℕ → List ℕ → State → Result (Unit {0}) Stop → Type 0
Does case before after state2 (Ok done) = (text : List ℕ) × (after ≡ before ++ text) × case (Ok text) state2
Does case before after state2 (Err (Sql error)) = (after ≡ before) × case (Err error) state2
Does case before after state2 (Err NoMemory) = Unit {0}

-- outside a block each command is a transaction of its own, whose end ends what SET LOCAL gave
abbrev pub settled_in : Block → State → State
settled_in block.Idle state = record state { settings = committed state.settings }
settled_in block.Active state = state
settled_in block.Failed state = state

abbrev pub settled : State → State
settled state = settled_in state.block state

-- a refusal makes an active block failed
abbrev pub refused : State → State
refused state = record state { block = failed state.block }

-- the end of a command, with what is printed, from how it ended and the state that it left
abbrev pub Ends : Result (List ℕ) SqlError → State → Done → List ℕ → State → Type 0
Ends (Ok text) left end output state2 = (end ≡ done.Ok) × (output ≡ text) × (state2 ≡ settled left)
Ends (Err error) left end output state2 = (end ≡ done.Refused) × (output ≡ error_line error) × (state2 ≡ settled (refused left))
