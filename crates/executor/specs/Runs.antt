-- What is left of a run.
use Rattle.std.specs.Prelude.{◌≡◌, ℕ, if◌then◌else◌, Option, Result, Ok, Err, List, [], map}
use Rattle.q_base.specs.declared.ids.ObjId.{ObjId}
use Rattle.q_base.specs.declared.code.Code.{Code}
use Rattle.q_value.specs.declared.value.Outcome.{Outcome}
use Rattle.q_value.specs.declared.value.Outcome.TheVariants as outcome
use Rattle.row_index.specs.declared.entries.IndexPlace.{IndexPlace}
use Rattle.row_index.specs.declared.entries.KeyRange.{KeyRange}
use Rattle.executor.specs.declared.found.Found.{Found}
use Rattle.executor.specs.declared.run.Run.{Run}
use Rattle.executor.specs.declared.stores.Stores.{Stores}
use Rattle.executor.specs.Cuts.{windowed}
use Rattle.executor.specs.Lists.{Rows, projected}
use Rattle.executor.specs.Scans.{scan_of, along_of}
use Rattle.executor.specs.Rest.{left_at}

-- a row without its slot, or a fault
abbrev pub outcome_of : Result Found Code → Outcome
outcome_of (Ok found) = outcome.Row found.row
outcome_of (Err code) = outcome.Fault code

-- the projected rows that are left of a run that hasn't ended, before LIMIT and OFFSET
abbrev pub projection : Run → Stores → Rows
projection run stores = projected run.targets run.params (left_at stores run.snap run.params run.state)

-- what is left of a run
abbrev pub run_rest : Run → Stores → List Outcome
run_rest run stores = if run.ended then [] else map outcome_of (windowed run.window (projection run stores))

-- at a snapshot the tables show the same rows, and along their indexes the same
pub record Alike (snap : ℕ) (p q : Stores) : Type 0 where
  pub rows : (table : ObjId) (from : ℕ) → scan_of p snap table from ≡ scan_of q snap table from
  pub along : (table index : ObjId) (range : KeyRange) (last : Option IndexPlace) → along_of p snap table index range last ≡ along_of q snap table index range last

abbrev pub AreAlike : Run → Stores → Stores → Type 0
AreAlike run p q = Alike run.snap p q

-- a run may be asked anywhere
abbrev pub FitsAll : Run → Stores → Type 0
FitsAll run stores = Unit {0}
