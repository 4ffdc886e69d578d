use Rattle.std.specs.Prelude.{ℕ, List, Option, map, String}
use Rattle.std.specs.Option.{option_map}
use Rattle.std.specs.String.{string_bytes}
use Rattle.std.specs.declared.alloc.Global.{Global}
use Rattle.analyzer.specs.Statements.{Found, seen}
use Rattle.session_core.specs.declared.statements.Kept.{Kept}
use Rattle.session_core.specs.State.{State, Statement}

-- what contracts see of a session: the machine's state, and how many commands it ran
pub record Seen : Type 0 where
  pub state : State
  pub ran : ℕ

-- what is found of a kept statement that needs no table
abbrev pub found_in : Kept → Option Found
found_in kept = option_map seen kept.found

-- an entry of the statements' map as a statement
abbrev pub statement_of : String Global × Kept → Statement
statement_of entry = record { name = string_bytes entry.0; found = found_in entry.1 }

abbrev pub statements_of : List (String Global × Kept) → List Statement
statements_of entries = map statement_of entries
