-- LIMIT and OFFSET.
use Rattle.std.specs.Prelude.{ℕ, zero, suc, ℤ, pos, negsuc, Option, None, Some, Result, Ok, Err, List, [], ◌∷◌, take, unwrap_or}
use Rattle.q_base.specs.declared.code.Code.{Code}
use Rattle.q_base.specs.declared.code.Code.TheVariants.{NegativeLimit, NegativeOffset}
use Rattle.q_value.specs.declared.value.Value.{Value}
use Rattle.q_value.specs.Values.{number_of}
use Rattle.query_tree.specs.declared.target.Target.{Target}
use Rattle.query_tree.specs.Evaluation.{then_with, value_of}
use Rattle.plan_tree.specs.declared.node.Cut.{Cut}
use Rattle.executor.specs.declared.cut.Window.{Window}
use Rattle.executor.specs.declared.cut.Window.TheVariants as window
use Rattle.executor.specs.Lists.{Rows}

-- a list less its first rows; a fault among them stands
abbrev pub skipped : ℕ → Rows → Rows
skipped zero rows = rows
skipped (suc n) [] = []
skipped (suc n) (Ok found ∷ more) = skipped n more
skipped (suc n) (Err code ∷ more) = Err code ∷ []

-- the first rows, all where there is no count
abbrev pub first_rows : Option ℕ → Rows → Rows
first_rows None rows = rows
first_rows (Some count) rows = take count rows

-- what LIMIT and OFFSET leave of a list; LIMIT 0 leaves nothing
abbrev pub windowed : Window → Rows → Rows
windowed (window.Fault code) rows = Err code ∷ []
windowed (window.Rows skip count) rows = first_rows count (skipped skip rows)

-- a count; a negative one is a fault
abbrev pub natural : Code → Option ℤ → Result (Option ℕ) Code
natural negative None = Ok None
natural negative (Some (pos number)) = Ok (Some number)
natural negative (Some (negsuc number)) = Err negative

-- the count that LIMIT or OFFSET gives over no row; none where it is null or not written
abbrev pub number_in : Code → List Value → Option Target → Result (Option ℕ) Code
number_in negative params None = Ok None
number_in negative params (Some target) = then_with (value_of target [] params) (λ found. natural negative (number_of found))

-- a fault of OFFSET comes first, and then one of LIMIT
abbrev pub rows_of_cut : Cut → List Value → Result Window Code
rows_of_cut cut params = then_with (number_in NegativeOffset params cut.offset) (λ skip. then_with (number_in NegativeLimit params cut.limit) (λ count. Ok (window.Rows (unwrap_or skip 0) count)))

abbrev pub or_fault : Result Window Code → Window
or_fault (Ok rows) = rows
or_fault (Err code) = window.Fault code

-- what LIMIT and OFFSET are with the values of the parameters
abbrev pub window_of : Cut → List Value → Window
window_of cut params = or_fault (rows_of_cut cut params)
