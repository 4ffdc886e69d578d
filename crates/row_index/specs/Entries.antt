use Rattle.std.specs.Prelude.{◌≡◌, ℕ, zero, suc, ◌<◌, Bool, false, not, Option, None, Some, List, [], ◌∷◌, ◌++◌, length, filter}
use Rattle.std.specs.List.{flat_map, list_any}
use Rattle.std.specs.declared.cmp.Ordering.{Ordering}
use Rattle.std.specs.declared.cmp.Ordering.TheVariants.{Less, Equal, Greater}
use Rattle.std.specs.Ordering.{is_eq}
use Rattle.row_index.specs.declared.entries.IndexPlace.{IndexPlace}
use Rattle.row_index.specs.Order.{entry_cmp}

-- P holds of each
abbrev pub Each : {X : Type 0} → (X → Type 0) → List X → Type 0
Each P [] = Unit {0}
Each P (x ∷ xs) = P x × Each P xs

-- each entry is below all later ones
abbrev pub IsAscending : List IndexPlace → Type 0
IsAscending [] = Unit {0}
IsAscending (entry ∷ entries) = Each (λ later. entry_cmp entry later ≡ Less) entries × IsAscending entries

abbrev pub by_order : {X : Type 0} → Ordering → X → X → X → X
by_order Less less equal greater = less
by_order Equal less equal greater = equal
by_order Greater less equal greater = greater

-- the entries with one more at its place, or as they are where it is there
abbrev pub with_entry : IndexPlace → List IndexPlace → List IndexPlace
with_entry new [] = new ∷ []
with_entry new (entry ∷ entries) = by_order (entry_cmp entry new) (entry ∷ with_entry new entries) (entry ∷ entries) (new ∷ entry ∷ entries)

-- the entries without one
abbrev pub without_entry : IndexPlace → List IndexPlace → List IndexPlace
without_entry gone entries = filter (λ entry. not (is_eq (entry_cmp entry gone))) entries

-- an entry is among these
abbrev pub has_entry : List IndexPlace → IndexPlace → Bool
has_entry entries entry = list_any (λ found. is_eq (entry_cmp found entry)) entries

-- the entry is the one that was found
abbrev pub is_at : IndexPlace → Option IndexPlace → Bool
is_at entry None = false
is_at entry (Some found) = is_eq (entry_cmp found entry)

-- the entries of parts, one after another
abbrev pub joined : {X : Type 0} → (X → List IndexPlace) → List X → List IndexPlace
joined entries parts = flat_map entries parts

-- the same, where the entries of the part at a place are changed
abbrev pub joined_with : {X : Type 0} → (X → List IndexPlace) → (List IndexPlace → List IndexPlace) → List X → ℕ → List IndexPlace
joined_with entries change [] at = []
joined_with entries change (part ∷ parts) zero = change (entries part) ++ joined entries parts
joined_with entries change (part ∷ parts) (suc at) = entries part ++ joined_with entries change parts at

abbrev pub IsFilled : List IndexPlace → Type 0
IsFilled entries = 0 < length entries

abbrev pub AreFilled : {X : Type 0} → (X → List IndexPlace) → List X → Type 0
AreFilled entries parts = Each (λ part. IsFilled (entries part)) parts

-- the entries were cut into two lists, neither of them empty
pub record IsHalved (whole front back : List IndexPlace) : Type 0 where
  pub same : whole ≡ front ++ back
  pub front_filled : IsFilled front
  pub back_filled : IsFilled back
