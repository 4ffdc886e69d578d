-- What a Check makes of its candidates.
use Rattle.std.specs.Prelude.{ℕ, nat_le, Bool, true, false, if◌then◌else◌, Option, None, Some, Result, Ok, Err, List, [], ◌∷◌, ◌++◌}
use Rattle.q_base.specs.declared.code.Code.{Code}
use Rattle.q_base.specs.declared.code.Code.TheVariants.{SmallintOutOfRange, IntegerOutOfRange, BigintOutOfRange}
use Rattle.q_value.specs.declared.value.Value.{Value}
use Rattle.query_tree.specs.declared.target.Target.{Target}
use Rattle.executor.specs.declared.found.Found.{Found}
use Rattle.executor.specs.Lists.{Rows, judged}

-- the candidates so far on which all conditions are true, and the fault to tell, if one faulted
pub record Tested : Type 0 where
  pub rows : List Found
  pub fault : Option Code

abbrev pub untested : Tested
untested = record { rows = []; fault = None }

-- 22003 of the narrowest type comes first, and any other fault last
abbrev pub rank_of : Code → ℕ
rank_of SmallintOutOfRange = 0
rank_of IntegerOutOfRange = 1
rank_of BigintOutOfRange = 2
rank_of other = 3

abbrev pub worse : Option Code → Code → Code
worse None second = second
worse (Some first) second = if nat_le (rank_of first) (rank_of second) then first else second

-- with what the conditions say of a candidate
abbrev pub with_verdict : Found → Tested → Result Bool Code → Tested
with_verdict found tested (Ok true) = record tested { rows = tested.rows ++ found ∷ [] }
with_verdict found tested (Ok false) = tested
with_verdict found tested (Err code) = record tested { fault = Some (worse tested.fault code) }

abbrev pub with_candidate : List Target → List Value → Found → Tested → Tested
with_candidate conds params found tested = with_verdict found tested (judged conds found.row params)

-- with all candidates of a list; its fault stands before theirs
abbrev pub tested_all : List Target → List Value → Tested → Rows → Result Tested Code
tested_all conds params tested [] = Ok tested
tested_all conds params tested (Ok found ∷ more) = tested_all conds params (with_candidate conds params found tested) more
tested_all conds params tested (Err code ∷ more) = Err code

abbrev pub settled_by : List Found → Option Code → Result (List Found) Code
settled_by rows None = Ok rows
settled_by rows (Some code) = Err code

-- the rows, or the fault
abbrev pub settled : Tested → Result (List Found) Code
settled tested = settled_by tested.rows tested.fault
