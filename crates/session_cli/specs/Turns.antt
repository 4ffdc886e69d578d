-- What the parts of a run do: whatever comes after the input, which commands were run of it.
use Rattle.std.specs.Prelude.{◌≡◌, ◌⊎◌, ◌<◌, ◌≤◌, ℕ, Bool, true, false, Option, Some, List, [], ◌∷◌, ◌++◌, length, take}
use Rattle.std.specs.Io.KnownBytes.{Appends, Keeps, Consumes, IsAtEnd}
use Rattle.sql_tokens.specs.Script.{Scan, Verdict, Over, NotYet, NotText, TooLong, scan}
use Rattle.sql_tokens.specs.Splitting.{Input, scan_with}
use Rattle.session_core.specs.declared.session.Done.{Done}
use Rattle.session_core.specs.Machine.{Step}
use Rattle.session_core.specs.State.{State, empty_state}
use Rattle.session_cli.specs.declared.options.Options.{Options}
use Rattle.session_cli.specs.declared.output.Halt.{Halt}
use Rattle.session_cli.specs.declared.output.Halt.TheVariants as halt
use Rattle.session_cli.specs.declared.running.Turn.{Turn}
use Rattle.session_cli.specs.declared.running.Turn.TheVariants as turn
use Rattle.session_cli.specs.declared.status.Status.{Status}
use Rattle.session_cli.specs.declared.status.Status.TheVariants as status
use Rattle.session_cli.specs.Headline.{Ran, RanToRefusal, RanToCut, IsWhole, HasRead}

-- that can come after the input: nothing more where it is over
abbrev pub CanCome : Input → List ℕ → Bool → Type 0
CanCome input more over = input.over ≡ true → (more ≡ []) × (over ≡ true)

abbrev pub ahead : List (List ℕ) → Scan → Scan
ahead texts scan = record scan { commands = texts ++ scan.commands }

-- the scans of input are the texts and then the scans of input2
abbrev pub Passes : Input → List (List ℕ) → Input → Type 0
Passes input texts input2 =
    (input2.over ≡ input.over) × ((more : List ℕ) (over : Bool) → CanCome input more over → scan_with input more over ≡ ahead texts (scan_with input2 more over))

-- the texts are all commands of the scans of input, which end so
abbrev pub Holds : Input → List (List ℕ) → Verdict → Type 0
Holds input texts verdict = (more : List ℕ) (over : Bool) → CanCome input more over → IsWhole texts verdict (scan_with input more over)

-- the texts are the first commands of the scans of input
abbrev pub Begins : Input → List (List ℕ) → Type 0
Begins input texts =
    (more : List ℕ) (over : Bool) → CanCome input more over → (scan : Scan) × (scan_with input more over ≡ ahead texts scan)

-- commands were run from input and state on, up to input2 and state2
pub record Advances (stop : Bool) (input input2 : Input) (state state2 : State) (old new : Option (List ℕ)) : Type 0 where
  pub texts : List (List ℕ)
  pub passes : Passes input texts input2
  pub ran : Ran stop state texts state2 old new

abbrev pub EndsWhole : Verdict → Bool → Input → State → Option (List ℕ) → Option (List ℕ) → Type 0
EndsWhole verdict stop input state old new =
    (texts : List (List ℕ)) × (state2 : State) × Holds input texts verdict × Ran stop state texts state2 old new

-- the run ended with that status
abbrev pub Ends : Status → Bool → Input → State → Option (List ℕ) → Option (List ℕ) → Type 0
Ends status.Done stop input state old new = (input.over ≡ true) × EndsWhole Over stop input state old new
Ends status.NotText stop input state old new = EndsWhole NotText stop input state old new
Ends status.TooLong stop input state old new = EndsWhole TooLong stop input state old new
Ends status.NoMemory stop input state old new =
    (texts : List (List ℕ)) × (state2 : State) × Begins input texts × Ran stop state texts state2 old new
Ends status.Stopped stop input state old new =
    (stop ≡ true) × (texts : List (List ℕ)) × (text : List ℕ) × Begins input (texts ++ text ∷ []) × RanToRefusal state (texts ++ text ∷ []) old new
Ends status.WriteFault stop input state old new =
    (texts : List (List ℕ)) × (text : List ℕ) × Begins input (texts ++ text ∷ []) × RanToCut stop state (texts ++ text ∷ []) old new
Ends status.ReadFault stop input state old new = ⊥
Ends status.Usage stop input state old new = ⊥

-- all whole commands of the input were run, and more has to come; or the run ended
abbrev pub TurnsTo : Turn → Bool → Input → Input → State → State → Option (List ℕ) → Option (List ℕ) → Type 0
TurnsTo turn.More stop input input2 state state2 old new =
    (input2.over ≡ false) × IsWhole [] NotYet (scan_with input2 [] false) × Advances stop input input2 state state2 old new
TurnsTo (turn.Ended status) stop input input2 state state2 old new = Ends status stop input state old new

-- a command was run and its output written whole, or it ended the run
abbrev pub Halts : Halt → State → List ℕ → Option (List ℕ) → Option (List ℕ) → Type 0
Halts halt.NoMemory state text old new = Keeps old new
Halts halt.WriteFault state text old new =
    (end : Done) × (output : List ℕ) × (some : ℕ) × (state2 : State) × Step state text end output state2 × Appends old new (take some output)

-- a splitter that was fed these bytes of a script and nothing was taken of them
abbrev pub start : List ℕ → Bool → Input
start read over = record { taken = 0; fed = read; over = over }

-- what was run of a script when its commands were run up to the input, where `left` is left of it and
-- now is what is written after old: all that is whole, but for what the last piece added
pub record Progress (options : Options) (script : List ℕ) (left : Option (List ℕ)) (input : Input) (state : State) (old now : Option (List ℕ)) : Type 0 where
  pub read : List ℕ
  pub texts : List (List ℕ)
  pub has_read : HasRead script read left
  pub passes : Passes (start read input.over) texts input
  pub at_end : input.over ≡ true → left ≡ Some []
  pub ran : Ran options.stop (empty_state options.mode) texts state old now
  pub earlier : List ℕ
  pub piece : List ℕ
  pub pieces : read ≡ earlier ++ piece
  pub short : length piece ≤ 4096
  pub seen : length (scan earlier false).commands ≤ length texts

-- a piece was fed, or none was left
abbrev pub Feeds : List ℕ → Option (List ℕ) → Input → Input → Type 0
Feeds piece left old new =
    ((0 < length piece) × (new ≡ record old { fed = old.fed ++ piece })) ⊎ ((piece ≡ []) × (new ≡ record old { over = true }) × IsAtEnd left)

-- one read of at most 4,096 bytes, which were fed
pub record ReadsPiece (left left2 : Option (List ℕ)) (old new : Input) : Type 0 where
  pub piece : List ℕ
  pub short : length piece ≤ 4096
  pub consumes : Consumes left left2 piece
  pub feeds : Feeds piece left2 old new
