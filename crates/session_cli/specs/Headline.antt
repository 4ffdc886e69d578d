-- What a run of the program leaves: the script's commands were answered as by a run of the session machine.
use Rattle.std.specs.Prelude.{◌≡◌, ◌⊎◌, ◌≤◌, ◌<◌, ℕ, Bool, true, false, Option, None, Some, IfSome, List, [], ◌∷◌, ◌++◌, length, take, All}
use Rattle.std.specs.List.{flat_map}
use Rattle.std.specs.Io.KnownBytes.{Appends}
use Rattle.q_io.specs.Faults.{Rose}
use Rattle.sql_tokens.specs.Script.{Scan, Verdict, Over, NotYet, NotText, TooLong, scan}
use Rattle.session_core.specs.declared.session.Done.{Done}
use Rattle.session_core.specs.declared.session.Done.TheVariants as done
use Rattle.session_core.specs.Machine.{Leads}
use Rattle.session_core.specs.State.{State, empty_state}
use Rattle.session_cli.specs.declared.options.Options.{Options}
use Rattle.session_cli.specs.declared.status.Status.{Status}
use Rattle.session_cli.specs.declared.status.Status.TheVariants as status
use Rattle.session_cli.specs.Words.{options_of}

-- how a command ended, and its output
abbrev pub Answer : Type 0
Answer = Done × List ℕ

-- the outputs, one after another
abbrev pub joined : List Answer → List ℕ
joined answers = flat_map (λ answer. answer.1) answers

abbrev pub NoneRefused : List Answer → Type 0
NoneRefused answers = All (λ answer. answer.0 ≡ done.Ok) answers

-- steps lead from state through the texts to state2, their outputs were written and nothing else, and
-- where a refusal ends the run none was refused
pub record Ran (stop : Bool) (state : State) (texts : List (List ℕ)) (state2 : State) (old new : Option (List ℕ)) : Type 0 where
  pub answers : List Answer
  pub leads : Leads state texts answers state2
  pub fine : stop ≡ true → NoneRefused answers
  pub written : Appends old new (joined answers)

-- the same of a run that its first refusal ended, at the last of the texts
pub record RanToRefusal (state : State) (texts : List (List ℕ)) (old new : Option (List ℕ)) : Type 0 where
  pub answers : List Answer
  pub output : List ℕ
  pub state2 : State
  pub leads : Leads state texts (answers ++ (done.Refused, output) ∷ []) state2
  pub fine : NoneRefused answers
  pub written : Appends old new (joined (answers ++ (done.Refused, output) ∷ []))

-- the same of a run in which the output of the last of the texts may have been cut short
pub record RanToCut (stop : Bool) (state : State) (texts : List (List ℕ)) (old new : Option (List ℕ)) : Type 0 where
  pub answers : List Answer
  pub last : Answer
  pub some : ℕ
  pub state2 : State
  pub leads : Leads state texts (answers ++ last ∷ []) state2
  pub fine : stop ≡ true → NoneRefused answers
  pub written : Appends old new (joined answers ++ take some last.1)

-- the texts are all commands of the scan, which ends so
abbrev pub IsWhole : List (List ℕ) → Verdict → Scan → Type 0
IsWhole texts verdict scan = scan ≡ record { commands = texts; verdict = verdict }

-- the texts are the first commands of the scan
abbrev pub IsFront : List (List ℕ) → Scan → Type 0
IsFront texts scan = (others : List (List ℕ)) × (scan.commands ≡ texts ++ others)

-- of the script these bytes were read
pub record HasRead (script read : List ℕ) (left : Option (List ℕ)) : Type 0 where
  pub rest : List ℕ
  pub all : script ≡ read ++ rest
  pub is_left : left ≡ Some rest

-- no more was read than the texts need: up to 4,096 bytes before, fewer commands were whole
pub record IsNeeded (read : List ℕ) (texts : List (List ℕ)) : Type 0 where
  pub earlier : List ℕ
  pub piece : List ℕ
  pub are : read ≡ earlier ++ piece
  pub short : length piece ≤ 4096
  pub fewer : length (scan earlier false).commands < length texts

-- every command of the script was run, and the scan of the script ends with that verdict
abbrev pub RanWhole : Verdict → Options → List ℕ → Option (List ℕ) → Option (List ℕ) → Type 0
RanWhole verdict options script old new =
    (texts : List (List ℕ)) × (state : State) × IsWhole texts verdict (scan script true) × Ran options.stop (empty_state options.mode) texts state old new

-- what a run with that status did of the script, of which `left` is left, where new is what is written after old
abbrev pub Outcome : Status → Options → List ℕ → Option (List ℕ) → Option (List ℕ) → Option (List ℕ) → Type 0
Outcome status.Done options script left old new = RanWhole Over options script old new × (left ≡ Some [])
Outcome status.NotText options script left old new = RanWhole NotText options script old new
Outcome status.TooLong options script left old new = RanWhole TooLong options script old new
-- the first commands have run, and their outputs were written whole
Outcome status.NoMemory options script left old new =
    (texts : List (List ℕ)) × (state : State) × IsFront texts (scan script true) × Ran options.stop (empty_state options.mode) texts state old new
-- the commands that were whole before the fault have run
Outcome status.ReadFault options script left old new =
    (read : List ℕ) × (texts : List (List ℕ)) × (state : State) × HasRead script read left × IsWhole texts NotYet (scan read false) × Ran options.stop (empty_state options.mode) texts state old new
Outcome status.Stopped options script left old new =
    (options.stop ≡ true) × (read : List ℕ) × (texts : List (List ℕ)) × HasRead script read left × IsNeeded read texts × IsFront texts (scan script true) × RanToRefusal (empty_state options.mode) texts old new
Outcome status.WriteFault options script left old new =
    (read : List ℕ) × (texts : List (List ℕ)) × HasRead script read left × IsNeeded read texts × IsFront texts (scan script true) × RanToCut options.stop (empty_state options.mode) texts old new
Outcome status.Usage options script left old new = ⊥

-- the status that a verdict on the whole script gives
abbrev pub status_of : Verdict → Status
status_of Over = status.Done
status_of NotText = status.NotText
status_of TooLong = status.TooLong
status_of NotYet = status.Done

-- without faults every command is run, up to a refusal that ends the run or to want of memory
abbrev pub IsComplete : Status → List ℕ → Type 0
IsComplete result script =
    (result ≡ status.NoMemory) ⊎ ((result ≡ status.Stopped) ⊎ (result ≡ status_of (scan script true).verdict))

-- what clauses see of a source or a sink: its bytes, where it tells them, and its count of faults
pub record Seen : Type 0 where
  pub bytes : Option (List ℕ)
  pub faults : ℕ

abbrev pub seen : {A : Type 0} → (A → Option (List ℕ)) → (A → ℕ) → A → Seen
seen bytes faults object = record { bytes = bytes object; faults = faults object }

-- all of that of one call with these words, between what is seen of the source and of the sink before and after
pub record IsSession (words : List (List ℕ)) (source source2 sink sink2 : Seen) (result : Status) : Type 0 where
  pub outcome : IfSome (options_of words) (λ options. IfSome source.bytes (λ script. Outcome result options script source2.bytes sink.bytes sink2.bytes))
  pub usage : result ≡ status.Usage → options_of words ≡ None
  pub refused : options_of words ≡ None → (result ≡ status.Usage) ⊎ (result ≡ status.NoMemory)
  pub read_fault : result ≡ status.ReadFault → Rose source.faults source2.faults
  pub write_fault : result ≡ status.WriteFault → Rose sink.faults sink2.faults
  pub complete :
      IfSome (options_of words) (λ options. IfSome source.bytes (λ script.
      (Rose source.faults source2.faults → ⊥) → (Rose sink.faults sink2.faults → ⊥) → IsComplete result script))
