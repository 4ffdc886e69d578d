use Rattle.std.specs.Prelude.{ℕ, ◌+◌, ◌≡◌, Bool, false, not, ◌||◌, if◌then◌else◌, List, [], ◌∷◌, ◌++◌, drop, ◌≤◌, ◌^◌, length, true}
use Rattle.std.specs.Str.{is_utf8}
use Rattle.sql_tokens.specs.declared.splitter.took.Took.{Took}
use Rattle.sql_tokens.specs.declared.splitter.took.Took.TheVariants as took
use Rattle.sql_tokens.specs.Script.{Text, texts, is_blanks, size, is_whole, is_too_long, Verdict, Over, NotYet, NotText, TooLong, Scan, ends, scan_from}

-- What a splitter was fed: how many bytes were cut off with the texts before, the bytes since, and
-- whether these are all that is left.
pub record Input : Type 0 where
  pub taken : ℕ
  pub fed : List ℕ
  pub over : Bool

abbrev pub scan_of : Input → Scan
scan_of input = scan_from input.taken input.fed input.over

abbrev pub verdict_of : Verdict → Took
verdict_of Over = took.Over
verdict_of NotYet = took.NotYet
verdict_of NotText = took.NotText
verdict_of TooLong = took.TooLong

-- the first command, or else the verdict
abbrev pub first_of : List (List ℕ) → Verdict → Took
first_of [] verdict = verdict_of verdict
first_of (command ∷ commands) verdict = took.Command command

abbrev pub taken_from : Scan → Took
taken_from scan = first_of scan.commands scan.verdict

abbrev pub IsCommand : Took → Type 0
IsCommand (took.Command command) = Unit {0}
IsCommand took.NotYet = ⊥
IsCommand took.Over = ⊥
IsCommand took.NotText = ⊥
IsCommand took.TooLong = ⊥

-- what was taken stands before the new scan in the old one
abbrev pub Precedes : Took → Scan → Scan → Type 0
Precedes (took.Command command) old new = old ≡ record new { commands = command ∷ new.commands }
Precedes took.NotYet old new = old ≡ new
Precedes took.Over old new = old ≡ new
Precedes took.NotText old new = (old ≡ ends NotText) × (new ≡ ends NotText)
Precedes took.TooLong old new = (old ≡ ends TooLong) × (new ≡ ends TooLong)

-- the scan where more was fed
abbrev pub scan_with : Input → List ℕ → Bool → Scan
scan_with input more over = scan_from input.taken (input.fed ++ more) over

-- how many bytes a take passes: the texts that are no commands up to the first that is one, that one,
-- and their cuts
abbrev pub passed : ℕ → Bool → List Text → ℕ
passed taken over [] = 0
passed taken over (text ∷ texts) =
    if is_too_long taken text || not (is_whole over text) || not (is_utf8 text.bytes) then 0
    else size text + (if is_blanks text.content then passed (taken + size text) over texts else 0)

abbrev pub without_front : ℕ → Input → Input
without_front n input = record { taken = input.taken + n; fed = drop n input.fed; over = input.over }

abbrev pub after_take : Input → Input
after_take input = without_front (passed input.taken input.over (texts input.fed)) input

-- a take gives `took` and leaves new; and if the input wasn't over, that is so however it goes on
pub record Takes (taken : Took) (old new : Input) : Type 0 where
  pub first : taken ≡ taken_from (scan_of old)
  pub left : new ≡ after_take old
  pub rest : Precedes taken (scan_of old) (scan_of new)
  pub further : old.over ≡ false → (more : List ℕ) (over : Bool) → Precedes taken (scan_with old more over) (scan_with new more over)

-- from new on a take gives what it gives from old on
pub record SameTake (old new : Input) : Type 0 where
  pub over : new.over ≡ old.over
  pub left : after_take new ≡ after_take old
  pub rest : scan_of new ≡ scan_of old
  pub further : (more : List ℕ) (over : Bool) → scan_with new more over ≡ scan_with old more over

-- what a take says of the counts of bytes
abbrev pub Bounds : Took → Input → Input → Type 0
Bounds (took.Command command) old new = (length command ≤ 2 ^ 20) × (old.taken + 1 ≤ new.taken) × (new.taken ≤ 2 ^ 30)
Bounds took.NotYet old new = (old.over ≡ false) × (new.taken + length new.fed ≤ 2 ^ 30)
Bounds took.Over old new = old.over ≡ true
Bounds took.NotText old new = Unit {0}
Bounds took.TooLong old new = Unit {0}
