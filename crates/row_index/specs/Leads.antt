use Rattle.std.specs.Prelude.{ℤ, pos, negsuc, Option, None, Some, List, [], ◌∷◌}
use Rattle.q_value.specs.declared.value.Value.{Value}
use Rattle.q_value.specs.Values.{number_of}
use Rattle.row_index.specs.declared.entries.IndexPlace.{IndexPlace}

-- the number, or the greatest of 64 bits where there is none
abbrev pub number_or_most : Option ℤ → ℤ
number_or_most None = pos 9223372036854775807
number_or_most (Some number) = number

-- the number that a key begins with; the least of 64 bits where it is empty, and the greatest where it begins with no number
abbrev pub key_lead : List Value → ℤ
key_lead [] = negsuc 9223372036854775807
key_lead (value ∷ values) = number_or_most (number_of value)

-- the lead of the last entry, or of the empty key where there is none
abbrev pub lead_of_last : List IndexPlace → ℤ
lead_of_last [] = key_lead []
lead_of_last (entry ∷ []) = key_lead entry.key
lead_of_last (entry ∷ next ∷ entries) = lead_of_last (next ∷ entries)
