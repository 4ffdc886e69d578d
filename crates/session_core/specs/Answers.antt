-- The answer of a query without FROM, whose product is one row without columns.
use Rattle.std.specs.Prelude.{ℤ, pos, int_lt, Bool, true, false, not, ◌&&◌, ◌||◌, List, [], ◌∷◌, ◌++◌, Option, None, Some, Result, Ok, Err, if◌then◌else◌}
use Rattle.std.specs.List.{list_all}
use Rattle.std.specs.Ordering.{int_eq}
use Rattle.q_base.specs.declared.code.Code.{Code}
use Rattle.q_base.specs.declared.code.Code.TheVariants.{NegativeLimit, NegativeOffset}
use Rattle.q_value.specs.declared.value.Value.{Value}
use Rattle.q_value.specs.declared.value.Value.TheVariants as value
use Rattle.q_value.specs.Values.{number_of}
use Rattle.query_tree.specs.declared.query.Aggregate.{Aggregate}
use Rattle.query_tree.specs.declared.query.Aggregate.TheVariants as aggregate
use Rattle.query_tree.specs.declared.query.Query.{Query}
use Rattle.query_tree.specs.declared.target.Target.{Target}
use Rattle.query_tree.specs.Evaluation.{then_with, is_null, value_of, truth_of, truth_or_fault}
use Rattle.query_tree.specs.Targets.{is_fallible}

abbrev pub Row : Type 0
Row = List Value

-- ---- conditions

abbrev pub is_true : Option Bool → Bool
is_true (Some true) = true
is_true _ = false

-- the condition is true, or may fault, which is looked at later
abbrev pub lets_pass : Row → Row → Target → Bool
lets_pass row params cond = is_fallible cond || is_true (truth_of cond row params)

-- the condition can't fault, or is true; or its fault
abbrev pub passes : Row → Row → Target → Result Bool Code
passes row params cond = if is_fallible cond then then_with (truth_or_fault (value_of cond row params)) (λ truth. Ok (is_true truth)) else Ok true

-- the conditions that may fault, in order, up to the first that faults or isn't true
abbrev pub all_pass : Row → Row → List Target → Result Bool Code
all_pass row params [] = Ok true
all_pass row params (cond ∷ conds) = then_with (passes row params cond) (λ passed. if passed then all_pass row params conds else Ok false)

-- whether the row stays: first by the conditions that can't fault, then by the others
abbrev pub stays : List Target → Row → Row → Result Bool Code
stays conds row params = if list_all (lets_pass row params) conds then all_pass row params conds else Ok false

-- ---- groups

-- the value, which is null without rows
abbrev pub where_row : Bool → Value → Value
where_row true v = v
where_row false v = value.Null

abbrev pub bigint_or_null : Option ℤ → Value
bigint_or_null (Some number) = value.Int8 number
bigint_or_null None = value.Null

abbrev pub count_of : Bool → Value
count_of counted = value.Int8 (if counted then pos 1 else pos 0)

-- the value of an aggregate over the one row, or over none
abbrev pub aggregated : Row → Bool → Aggregate → Result Value Code
aggregated params there aggregate.CountRows = Ok (count_of there)
aggregated params there (aggregate.Count argument) = then_with (value_of argument [] params) (λ v. Ok (count_of (there && not (is_null v))))
aggregated params there (aggregate.Sum argument) = then_with (value_of argument [] params) (λ v. Ok (where_row there (bigint_or_null (number_of v))))
aggregated params there (aggregate.Min argument) = then_with (value_of argument [] params) (λ v. Ok (where_row there v))
aggregated params there (aggregate.Max argument) = then_with (value_of argument [] params) (λ v. Ok (where_row there v))

-- the values behind those found, from left to right; the first fault stands
abbrev pub each_from : {A : Type 0} → (A → Result Value Code) → Row → List A → Result Row Code
each_from f found [] = Ok found
each_from f found (x ∷ xs) = then_with (f x) (λ v. each_from f (found ++ v ∷ []) xs)

abbrev pub each : {A : Type 0} → (A → Result Value Code) → List A → Result Row Code
each f xs = each_from f [] xs

-- HAVING, whose conditions can't fault
abbrev pub having : Row → Row → List Target → Bool
having row params conds = list_all (λ cond. is_true (truth_of cond row params)) conds

-- the row of the one group, if HAVING lets it stay
abbrev pub group_row : Query → Row → Bool → Result (Option Row) Code
group_row query params there = then_with (each (aggregated params there) query.aggregates) (λ row.
    Ok (if having row params query.having then Some row else None))

-- the row over which the targets are evaluated, if there is one
abbrev pub source_row : Query → Row → Result (Option Row) Code
source_row query params = then_with (stays query.conds [] params) (λ there.
    if query.grouped then group_row query params there else Ok (if there then Some [] else None))

-- ---- the answer

abbrev pub nonnegative : Code → Option ℤ → Result (Option ℤ) Code
nonnegative negative (Some number) = if int_lt number (pos 0) then Err negative else Ok (Some number)
nonnegative negative None = Ok None

-- the number of LIMIT or OFFSET; none where it is null or not written
abbrev pub cut : Option Target → Row → Code → Result (Option ℤ) Code
cut (Some target) params negative = then_with (value_of target [] params) (λ v. nonnegative negative (number_of v))
cut None params negative = Ok None

abbrev pub is_zero : Option ℤ → Bool
is_zero (Some number) = int_eq number (pos 0)
is_zero None = false

abbrev pub skips : Option ℤ → Bool
skips (Some number) = int_lt (pos 0) number
skips None = false

-- the one row, unless OFFSET skips it
abbrev pub given : Bool → Row → List Row
given true row = []
given false row = row ∷ []

-- the values of the targets over a row
unfoldable pub values_of : List Target → Row → Row → Result Row Code
values_of targets row params = each (λ target. value_of target row params) targets

abbrev pub projected_row : List Target → Row → Row → Bool → Result (List Row) Code
projected_row targets params row skipped = then_with (values_of targets row params) (λ values. Ok (given skipped values))

abbrev pub projected : List Target → Row → Bool → Option Row → Result (List Row) Code
projected targets params skipped None = Ok []
projected targets params skipped (Some row) = projected_row targets params row skipped

-- the rows, or the fault: of OFFSET and LIMIT first; a LIMIT of 0 gives none; a fault of the row is never skipped
unfoldable pub answer : Query → Row → Result (List Row) Code
answer query params =
    then_with (cut query.offset params NegativeOffset) (λ skipped.
    then_with (cut query.limit params NegativeLimit) (λ most.
    if is_zero most then Ok [] else
    then_with (source_row query params) (projected query.targets params (skips skipped))))
