-- The slots of the rows of a list.
use Rattle.std.specs.Prelude.{ℕ, Option, None, Some, Ok, Err, List, [], ◌∷◌, ◌++◌, map, IsPermutation, IsSorted}
use Rattle.std.specs.Ordering.{nat_cmp}
use Rattle.q_base.specs.declared.ids.SlotId.{SlotId}
use Rattle.executor.specs.Lists.{Rows}
use Rattle.executor.specs.Uniques.{numbered}

abbrev pub with_slot : List SlotId → Option ℕ → List SlotId
with_slot slots None = slots
with_slot slots (Some slot) = slots ++ numbered slot ∷ []

-- the slots of rows behind those found
abbrev pub slots_from : List SlotId → Rows → List SlotId
slots_from slots [] = slots
slots_from slots (Ok found ∷ more) = slots_from (with_slot slots found.slot) more
slots_from slots (Err code ∷ more) = slots

abbrev pub with_number : Option ℕ → List ℕ → List ℕ
with_number None numbers = numbers
with_number (Some slot) numbers = slot ∷ numbers

-- the numbers of the slots of rows
abbrev pub numbers_of : Rows → List ℕ
numbers_of [] = []
numbers_of (Ok found ∷ more) = with_number found.slot (numbers_of more)
numbers_of (Err code ∷ more) = []

-- the slots of rows, ascending
pub record AreAscending (rows : Rows) (slots : List SlotId) : Type 0 where
  pub same : IsPermutation (numbers_of rows) (map (λ (slot : SlotId). slot.0) slots)
  pub sorted : IsSorted nat_cmp (map (λ (slot : SlotId). slot.0) slots)
