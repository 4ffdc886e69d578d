-- Lists of rows that may end in a fault, and what the nodes of a plan make of them.
use Rattle.std.specs.Prelude.{Bool, true, false, if◌then◌else◌, Option, None, Some, Result, Ok, Err, List, [], ◌∷◌, ◌++◌}
use Rattle.q_base.specs.declared.code.Code.{Code}
use Rattle.q_value.specs.declared.value.Value.{Value}
use Rattle.query_tree.specs.declared.target.Target.{Target}
use Rattle.query_tree.specs.Evaluation.{then_with, value_of, truth_of, truth_or_fault}
use Rattle.executor.specs.declared.found.Found.{Found}

-- rows in order, and maybe a fault, which stands only as the last
abbrev pub Rows : Type 0
Rows = List (Result Found Code)

-- a row that is no table's
abbrev pub made : List Value → Found
made row = record { row = row; slot = None }

abbrev pub is_true : Option Bool → Bool
is_true None = false
is_true (Some truth) = truth

-- all conditions are true
abbrev pub all_true : List Target → List Value → List Value → Bool
all_true [] row params = true
all_true (cond ∷ conds) row params = if is_true (truth_of cond row params) then all_true conds row params else false

-- the same of conditions that may fault: the first fault stands, unless one before it isn't true
abbrev pub judged : List Target → List Value → List Value → Result Bool Code
judged [] row params = Ok true
judged (cond ∷ conds) row params = then_with (truth_or_fault (value_of cond row params)) (λ truth. if is_true truth then judged conds row params else Ok false)

-- the row, if there is one, where the conditions are true on it
abbrev pub passing : List Target → List Value → Option (List Value) → Option (List Value)
passing conds params None = None
passing conds params (Some row) = if all_true conds row params then Some row else None

-- the rows on which the conditions are true
abbrev pub kept : List Target → List Value → Rows → Rows
kept conds params [] = []
kept conds params (Ok found ∷ more) = if all_true conds found.row params then Ok found ∷ kept conds params more else kept conds params more
kept conds params (Err code ∷ more) = Err code ∷ []

-- the values of targets behind those found, or the first fault
abbrev pub values_from : List Value → List Target → List Value → List Value → Result (List Value) Code
values_from found [] row params = Ok found
values_from found (target ∷ targets) row params = then_with (value_of target row params) (λ value. values_from (found ++ value ∷ []) targets row params)

-- a row, and then the others; a fault in its place ends the list
abbrev pub before : {A : Type 0} → Result A Code → (A → Rows) → Rows
before (Err code) rows = Err code ∷ []
before (Ok found) rows = rows found

-- each row projected
abbrev pub projected : List Target → List Value → Rows → Rows
projected targets params [] = []
projected targets params (Ok found ∷ more) = before (values_from [] targets found.row params) (λ row. Ok (record { row = row; slot = found.slot }) ∷ projected targets params more)
projected targets params (Err code ∷ more) = Err code ∷ []

-- the rows that a block projects, where the conditions are true
abbrev pub derived : List Target → List Target → List Value → Rows → Rows
derived conds targets params [] = []
derived conds targets params (Ok found ∷ more) = before (values_from [] targets found.row params) (λ row. if all_true conds row params then Ok (made row) ∷ derived conds targets params more else derived conds targets params more)
derived conds targets params (Err code ∷ more) = Err code ∷ []

-- the inner rows beside an outer row, where the conditions are true
abbrev pub beside : List Target → List Value → List Value → Rows → Rows
beside conds params left [] = []
beside conds params left (Ok right ∷ more) = if all_true conds (left ++ right.row) params then Ok (made (left ++ right.row)) ∷ beside conds params left more else beside conds params left more
beside conds params left (Err code ∷ more) = Err code ∷ []

-- a list, and then another; a fault ends it
abbrev pub followed : Rows → Rows → Rows
followed [] more = more
followed (Ok found ∷ rows) more = Ok found ∷ followed rows more
followed (Err code ∷ rows) more = Err code ∷ []

-- for each outer row all inner rows beside it
abbrev pub crossed : List Target → List Value → Rows → Rows → Rows
crossed conds params whole [] = []
crossed conds params whole (Ok left ∷ lefts) = followed (beside conds params left.row whole) (crossed conds params whole lefts)
crossed conds params whole (Err code ∷ lefts) = Err code ∷ []

-- the inner rows that are left beside the outer row at hand, if there is one
abbrev pub current : List Target → List Value → Option (List Value) → Rows → Rows
current conds params None rights = []
current conds params (Some left) rights = beside conds params left rights

-- what is left of a nested loop
abbrev pub loop_left : List Target → List Value → Option (List Value) → Rows → Rows → Rows → Rows
loop_left conds params left rights whole lefts = followed (current conds params left rights) (crossed conds params whole lefts)

-- the row without columns, unless it was given, where the conditions are true
abbrev pub single : List Target → List Value → Bool → Rows
single conds params true = []
single conds params false = if all_true conds [] params then Ok (made []) ∷ [] else []
