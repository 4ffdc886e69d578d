-- SELECT, PREPARE and EXECUTE of statements that need no table. What they answer doesn't depend on the catalog and the search
-- path by which their analysis goes.
use Rattle.std.specs.Prelude.{ℕ, ◌==◌, nat_le, List, [], ◌∷◌, ◌++◌, length, Bool, true, false, Option, None, Some, Result, Ok, Err, if◌then◌else◌}
use Rattle.std.specs.Str.{bytes_eq}
use Rattle.q_base.specs.declared.code.Code.TheVariants.{DuplicateStatement, LimitExceeded, UnknownStatement, WrongParameterCount}
use Rattle.q_base.specs.declared.errors.SqlError.{SqlError}
use Rattle.q_base.specs.declared.errors.Stop.{Stop}
use Rattle.q_value.specs.declared.value.SqlType.{SqlType}
use Rattle.q_value.specs.declared.value.Value.{Value}
use Rattle.q_value.specs.Conversions.{plain}
use Rattle.query_tree.specs.declared.statement.Bound.{Bound}
use Rattle.query_tree.specs.declared.statement.Bound.TheVariants as bound
use Rattle.sql_tree.specs.declared.prepared.ExecuteTree.{ExecuteTree}
use Rattle.sql_tree.specs.declared.prepared.PrepareTree.{PrepareTree}
use Rattle.sql_tree.specs.declared.statement.Statement as written
use Rattle.sql_tree.specs.declared.statement.Statement.TheVariants as tree_of
use Rattle.expr_analysis.specs.Arguments.{analysed}
use Rattle.expr_analysis.specs.Types.{declared_types}
use Rattle.analyzer.specs.Statements as analysis
use Rattle.analyzer.specs.Statements.{Found, Surroundings}
use Rattle.result_text.specs.declared.tags.Tag.TheVariants as tag
use Rattle.result_text.specs.Rows.{rows_lines}
use Rattle.result_text.specs.Tags.{tag_line}
use Rattle.session_core.specs.Answers.{answer}
use Rattle.session_core.specs.Arguments.{and_then, refused_by, argument_values}
use Rattle.session_core.specs.State.{State, Statement, Case, Leads, Prints, Unstated}

abbrev is_empty : {A : Type 0} → List A → Bool
is_empty [] = true
is_empty (x ∷ xs) = false

-- a SELECT without FROM needs no table
abbrev pub is_plain : written.Statement → Bool
is_plain (tree_of.Select select) = is_empty select.core.from
is_plain _ = false

-- what is found of the statement of a name; of one that names tables or views nothing
abbrev pub kept : List Statement → List ℕ → Option (Option Found)
kept [] name = None
kept (statement ∷ statements) name = if bytes_eq name statement.name then Some statement.found else kept statements name

-- the rows of an analysed statement over the values of its parameters, as they are printed
abbrev pub plain_rows : Bound → List Value → Result (List (List Value)) SqlError
plain_rows (bound.Select query) values = refused_by (answer query values)
plain_rows _ values = Ok []

abbrev pub output_of : Found → List Value → Result (List ℕ) SqlError
output_of found values = and_then (plain_rows found.bound values) (λ rows. Ok (rows_lines found.result rows))

-- ---- SELECT

unfoldable pub selected : Surroundings → written.Statement → Result (List ℕ) SqlError
selected place tree = and_then (analysis.statement place None tree) (λ found. output_of found [])

abbrev pub SelectsPlain : State → written.Statement → Case
SelectsPlain state tree outcome state2 = (place : Surroundings) × Prints state (selected place tree) outcome state2

abbrev pub SelectsIf : Bool → State → written.Statement → Case
SelectsIf true state tree = SelectsPlain state tree
SelectsIf false state tree = Unstated

abbrev pub Selects : State → written.Statement → Case
Selects state tree = SelectsIf (is_plain tree) state tree

-- ---- PREPARE

abbrev pub named_refusal : {A : Type 0} → SqlError → Option A → Result (Unit {0}) SqlError
named_refusal error (Some x) = Err error
named_refusal error None = Ok tt

-- the name is free, and there are fewer than 4,096 statements
abbrev pub admitted : List Statement → List ℕ → Result (Unit {0}) SqlError
admitted statements name = and_then (named_refusal (record { code = DuplicateStatement; args = name ∷ [] }) (kept statements name)) (λ free.
    if nat_le 4096 (length statements) then Err (plain LimitExceeded) else Ok tt)

-- the types, then the statement by them, then the name, then the room
unfoldable pub prepared : Surroundings → List Statement → PrepareTree → Result Found SqlError
prepared place statements tree =
    and_then (declared_types tree.types) (λ types.
    and_then (analysis.statement place (Some types) tree.statement) (λ found.
    and_then (admitted statements tree.name) (λ ready. Ok found)))

abbrev pub with_statement : State → List ℕ → Found → State
with_statement state name found = record state { statements = state.statements ++ record { name = name; found = Some found } ∷ [] }

-- the statement is kept
abbrev pub Keeps : State → List ℕ → Found → Case
Keeps state name found = Leads state (Ok (tag_line tag.Prepare 0, with_statement state name found))

abbrev pub PreparesPlain : State → PrepareTree → Case
PreparesPlain state tree outcome state2 = (place : Surroundings) ×
    Leads state (and_then (prepared place state.statements tree) (λ found. Ok (tag_line tag.Prepare 0, with_statement state tree.name found))) outcome state2

abbrev pub PreparesIf : Bool → State → PrepareTree → Case
PreparesIf true state tree = PreparesPlain state tree
PreparesIf false state tree = Unstated

abbrev pub Prepares : State → PrepareTree → Case
Prepares state tree = PreparesIf (is_plain tree.statement) state tree

-- ---- EXECUTE

-- as many arguments as parameters
abbrev pub counted : ExecuteTree → List SqlType → Result (Unit {0}) SqlError
counted tree types = if length tree.arguments == length types then Ok tt else Err (record { code = WrongParameterCount; args = tree.name ∷ [] })

-- the count of arguments, their types, and then their values
abbrev pub argument_list : ExecuteTree → List SqlType → Result (List Value) SqlError
argument_list tree types =
    and_then (counted tree types) (λ ready.
    and_then (analysed tree.arguments types) (λ targets.
    argument_values targets types))

-- the rows over values
abbrev pub ExecutesFound : State → Option (Option Found) → List Value → Case
ExecutesFound state (Some (Some found)) values = Prints state (output_of found values)
ExecutesFound state _ values = Unstated

abbrev pub ExecutesPlain : State → List ℕ → List Value → Case
ExecutesPlain state name values = ExecutesFound state (kept state.statements name) values

-- the statement, the arguments, and then the rows
abbrev pub ExecutesOf : State → ExecuteTree → Option (Option Found) → Case
ExecutesOf state tree None = Prints state (Err (record { code = UnknownStatement; args = tree.name ∷ [] }))
ExecutesOf state tree (Some (Some found)) = Prints state (and_then (argument_list tree found.params) (λ values. output_of found values))
ExecutesOf state tree (Some None) = Unstated

abbrev pub Executes : State → ExecuteTree → Case
Executes state tree = ExecutesOf state tree (kept state.statements tree.name)
