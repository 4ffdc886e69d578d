-- Which lists of outcomes answer a query.
use Rattle.std.specs.Prelude.{◌≡◌, ℕ, zero, suc, ℤ, pos, negsuc, ◌+◌, Bool, true, false, not, ◌&&◌, List, [], ◌∷◌, map, take, Option, None, Some, Result, Ok, Err, IsPermutation, IsSorted}
use Rattle.std.specs.declared.cmp.Ordering.{Ordering}
use Rattle.std.specs.declared.cmp.Ordering.TheVariants.{Equal}
use Rattle.std.specs.List.{list_all}
use Rattle.std.specs.Ordering.{is_eq, then_cmp}
use Rattle.q_base.specs.declared.code.Code.{Code}
use Rattle.q_base.specs.declared.code.Code.TheVariants.{NegativeLimit, NegativeOffset, LimitExceeded}
use Rattle.q_value.specs.declared.value.Value.{Value}
use Rattle.q_value.specs.Values.{number_of}
use Rattle.q_value.specs.Order.{sort_cmp}
use Rattle.query_tree.specs.declared.query.Query.{Query}
use Rattle.query_tree.specs.declared.query.SortKey.{SortKey}
use Rattle.query_tree.specs.declared.target.Target.{Target}
use Rattle.query_tree.specs.Evaluation.{then_with, value_of}
use Rattle.query_meaning.specs.Rows.{Row, Meaning, listed, over, faulty, value_or_null}

-- rows in order, and maybe a fault, which stands only as the last
abbrev pub Outcomes : Type 0
Outcomes = List (Result Row Code)

abbrev pub fault : Code → Outcomes
fault code = Err code ∷ []

-- ---- the cut

-- how many rows OFFSET skips, and how many LIMIT lets through at most
pub record Cut : Type 0 where
  pub skipped : ℕ
  pub most : Option ℕ

abbrev pub natural : Code → Option ℤ → Result (Option ℕ) Code
natural negative None = Ok None
natural negative (Some (pos number)) = Ok (Some number)
natural negative (Some (negsuc number)) = Err negative

-- the number of LIMIT or OFFSET; none where it is null or not written
abbrev pub number_in : Option Target → Row → Code → Result (Option ℕ) Code
number_in None params negative = Ok None
number_in (Some target) params negative = then_with (value_of target [] params) (λ v. natural negative (number_of v))

abbrev pub or_zero : Option ℕ → ℕ
or_zero None = 0
or_zero (Some number) = number

-- a negative OFFSET is refused first, and then a negative LIMIT
abbrev pub cut_of : Query → Row → Result Cut Code
cut_of query params = then_with (number_in query.offset params NegativeOffset) (λ skipped.
    then_with (number_in query.limit params NegativeLimit) (λ most. Ok (record { skipped = or_zero skipped; most = most })))

-- ---- the order

abbrev pub key_order : Row → SortKey → Row → Row → Ordering
key_order params key one other = sort_cmp key.desc key.nulls_first (value_or_null (value_of key.target one params)) (value_or_null (value_of key.target other params))

-- the order of ORDER BY: by the first key, then by the others
abbrev pub sort_order : List SortKey → Row → Row → Row → Ordering
sort_order [] params one other = Equal
sort_order (key ∷ keys) params one other = then_cmp (key_order params key) (sort_order keys params) one other

-- ---- what is shown

abbrev pub with_value : Value → Result Row Code → Result Row Code
with_value v (Ok row) = Ok (v ∷ row)
with_value v (Err code) = Err code

-- the values of the targets over a row, or the first fault
abbrev pub values_of : List Target → Row → Row → Result Row Code
values_of [] params row = Ok []
values_of (target ∷ targets) params row = then_with (value_of target row params) (λ v. with_value v (values_of targets params row))

-- up to the first fault
abbrev pub ended : Outcomes → Outcomes
ended [] = []
ended (Ok row ∷ more) = Ok row ∷ ended more
ended (Err code ∷ more) = Err code ∷ []

-- without the first outcomes, but a fault is never dropped
abbrev pub without : ℕ → Outcomes → Outcomes
without zero outcomes = outcomes
without (suc skipped) [] = []
without (suc skipped) (Ok row ∷ more) = without skipped more
without (suc skipped) (Err code ∷ more) = Err code ∷ more

abbrev pub first_of : ℕ → Option ℕ → List Row → List Row
first_of skipped None rows = rows
first_of skipped (Some most) rows = take (skipped + most) rows

-- sorted rows cut, projected and ended at the first fault
abbrev pub shown : Query → Row → Cut → List Row → Outcomes
shown query params cut rows = without cut.skipped (ended (map (values_of query.targets params) (first_of cut.skipped cut.most rows)))

-- ---- answers

-- the rows in an order that ORDER BY allows, shown
pub record IsShown (query : Query) (params : Row) (cut : Cut) (rows : List Row) (outcomes : Outcomes) : Type 0 where
  pub ordered : List Row
  pub same : IsPermutation rows ordered
  pub sorted : IsSorted (sort_order query.order params) ordered
  pub gives : outcomes ≡ shown query params cut ordered

abbrev pub AnswersCut : Query → Row → Cut → Meaning → Outcomes → Type 0
AnswersCut query params cut over outcomes = outcomes ≡ fault LimitExceeded
AnswersCut query params cut (faulty code) outcomes = outcomes ≡ fault code
AnswersCut query params cut (listed rows) outcomes = IsShown query params cut rows outcomes

abbrev pub is_open : Option ℕ → Bool
is_open None = true
is_open (Some zero) = false
is_open (Some (suc most)) = true

abbrev pub AnswersWhere : Bool → Query → Row → Cut → Meaning → Outcomes → Type 0
AnswersWhere false query params cut rows outcomes = outcomes ≡ []
AnswersWhere true query params cut rows outcomes = AnswersCut query params cut rows outcomes

abbrev pub AnswersBy : Result Cut Code → Query → Row → Meaning → Outcomes → Type 0
AnswersBy (Err code) query params rows outcomes = outcomes ≡ fault code
AnswersBy (Ok cut) query params rows outcomes = AnswersWhere (is_open cut.most) query params cut rows outcomes

-- a lawful answer of a query that has these rows: a fault of OFFSET, and then of LIMIT; nothing where LIMIT is 0; too many
-- rows to group, or the fault of a condition; else the rows
abbrev pub Answers : Query → Row → Meaning → Outcomes → Type 0
Answers query params rows outcomes = AnswersBy (cut_of query params) query params rows outcomes

-- ---- how much an answer is determined

abbrev pub is_list : Meaning → Bool
is_list (listed rows) = true
is_list over = false
is_list (faulty code) = false

-- no two places of the rows are equal in all sort keys
abbrev pub are_apart : List SortKey → Row → List Row → Bool
are_apart keys params [] = true
are_apart keys params (row ∷ rows) = list_all (λ other. not (is_eq (sort_order keys params row other))) rows && are_apart keys params rows

-- the rows are no list, or the sort keys tell their order
abbrev pub is_strict : Query → Row → Meaning → Bool
is_strict query params (listed rows) = are_apart query.order params rows
is_strict query params over = true
is_strict query params (faulty code) = true

-- the rows are no list, so that no order of them matters
abbrev pub is_whole_answer : Query → Row → Meaning → Type 0
is_whole_answer query params rows = is_list rows ≡ false
