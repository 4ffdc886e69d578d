use Rattle.std.specs.Prelude.{◌≡◌, ℕ, List, [], ◌∷◌, ◌++◌, Bool, true, false, Result, Ok, Err}
use Rattle.q_base.specs.declared.code.Code.TheVariants.{FailedBlock}
use Rattle.q_base.specs.declared.errors.SqlError.{SqlError}
use Rattle.q_base.specs.declared.errors.Stop.{Stop}
use Rattle.q_base.specs.declared.errors.Stop.TheVariants as stop
use Rattle.q_value.specs.Conversions.{plain}
use Rattle.savepoints.specs.declared.transaction.Block.{Block}
use Rattle.savepoints.specs.declared.transaction.Block.TheVariants as block
use Rattle.sql_tokens.specs.declared.token.Token.{Token}
use Rattle.sql_tokens.specs.Spelling.{TextSpells}
use Rattle.sql_tree.specs.declared.command.Command.{Command}
use Rattle.sql_tree.specs.declared.command.Command.TheVariants.{Statement, Prepare, Execute, Commit, Rollback, RollbackTo, ShowPrepared, ShowCursors, Set, Reset, Show}
use Rattle.sql_reader.specs.Grammar.{IsRead}
use Rattle.session_core.specs.declared.session.Done.{Done}
use Rattle.session_core.specs.State.{State, Case, Prints, Unstated, Ends, settled, refused}
use Rattle.session_core.specs.Prepared.{Selects, Prepares, Executes}
use Rattle.session_core.specs.Settings.{Sets, Resets, Shows}

-- the command's own case; the others of its commands have none yet
abbrev pub Performs : State → Command → Case
Performs state (Statement tree) = Selects state tree
Performs state (Prepare tree) = Prepares state tree
Performs state (Execute tree) = Executes state tree
Performs state (Set tree) = Sets state tree
Performs state (Reset name) = Resets state name
Performs state (Show name) = Shows state name
Performs state _ = Unstated

abbrev pub is_prepare : Command → Bool
is_prepare (Prepare tree) = true
is_prepare _ = false

-- the commands that a failed block lets pass
abbrev pub passes : Command → Bool
passes Commit = true
passes Rollback = true
passes (RollbackTo name) = true
passes ShowPrepared = true
passes ShowCursors = true
passes _ = false

-- a failed block refuses the others, 25P02
abbrev pub PassesTo : Bool → State → Command → Case
PassesTo true state command = Performs state command
PassesTo false state command = Prints state (Err (plain FailedBlock))

abbrev pub Runs : Block → State → Command → Case
Runs block.Idle state command = Performs state command
Runs block.Active state command = Performs state command
Runs block.Failed state command = PassesTo (passes command) state command

-- the same of tokens that spell a command, or that are refused
abbrev pub Follows : State → Result Command SqlError → Case
Follows state (Ok command) = Runs state.block state command
Follows state (Err error) = Prints state (Err error)

-- the same of a text whose tokens are found, and of what these spell; or of a text that is refused
abbrev pub Reads : State → Result (List Token) SqlError → Case
Reads state (Ok tokens) outcome state2 = (read : Result Command SqlError) × IsRead tokens read × Follows state read outcome state2
Reads state (Err error) outcome state2 = Prints state (Err error) outcome state2

-- a text is read and does what it says
abbrev pub Performed : State → List ℕ → Case
Performed state text outcome state2 = (given : Result (List Token) SqlError) × TextSpells text given × Reads state given outcome state2

-- a call that runs the command of a text, appends what it prints, and ends the transaction outside a block
abbrev pub Stepped : State → List ℕ → List ℕ → List ℕ → State → Result (Unit {0}) Stop → Type 0
Stepped state text before after state2 (Ok done) = (output : List ℕ) × (left : State) × (after ≡ before ++ output) × Performed state text (Ok output) left × (state2 ≡ settled left)
Stepped state text before after state2 (Err (stop.Sql error)) = (left : State) × (after ≡ before) × Performed state text (Err error) left × (state2 ≡ settled (refused left))
Stepped state text before after state2 (Err stop.NoMemory) = Unit {0}

-- one step: from state the text of a command gives that end and output, and leads to state2
abbrev pub Step : State → List ℕ → Done → List ℕ → State → Type 0
Step state text end output state2 = (outcome : Result (List ℕ) SqlError) × (left : State) × Performed state text outcome left × Ends outcome left end output state2

-- steps lead from state through the texts, with those ends and outputs, to state2
abbrev pub Leads : State → List (List ℕ) → List (Done × List ℕ) → State → Type 0
Leads state [] [] state2 = state2 ≡ state
Leads state (text ∷ texts) (answer ∷ answers) state2 =
    (middle : State) × Step state text answer.0 answer.1 middle × Leads middle texts answers state2
Leads state [] (answer ∷ answers) state2 = ⊥
Leads state (text ∷ texts) [] state2 = ⊥
