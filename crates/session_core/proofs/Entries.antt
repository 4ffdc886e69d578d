-- The statements of the map's entries.
use Rattle.std.proofs.Common.{◌≡◌, ℕ, zero, suc, Bool, true, false, cond, List, [], ◌∷◌, ◌++◌, map, Option, None, Some, String, refl, sym, ap, ◌∙◌}
use Rattle.std.proofs.lemmas.Option.{none-some}
use Rattle.std.specs.List.{slice_get}
use Rattle.std.specs.Map.{lookup}
use Rattle.std.specs.Option.{option_map}
use Rattle.std.specs.Str.{bytes_eq}
use Rattle.std.specs.String.{string_bytes}
use Rattle.std.specs.declared.alloc.Global.{Global}
use Rattle.indexmap.specs.IndexMap.{set_value_at}
use Rattle.analyzer.specs.Statements.{Found}
use Rattle.session_core.specs.declared.statements.Kept.{Kept}
use Rattle.session_core.specs.Prepared.{kept}
use Rattle.session_core.specs.Seen.{found_in, statement_of, statements_of}

found-cond : (b : Bool) (a : Kept) (k : Option (Option Found)) (l : Option Kept) → k ≡ option_map found_in l → cond b (Some (found_in a)) k ≡ option_map found_in (cond b (Some a) l)
found-cond true a k l e = refl
found-cond false a k l e = e

-- what is kept under a name is what the entry has
pub kept-lookup : (entries : List (String Global × Kept)) (name : List ℕ) → kept (statements_of entries) name ≡ option_map found_in (lookup (λ key. bytes_eq name (string_bytes key)) entries)
kept-lookup [] name = refl
kept-lookup (entry ∷ entries) name = found-cond (bytes_eq name (string_bytes entry.0)) entry.1 _ _ (kept-lookup entries name)

pub statements_of-push : (entries : List (String Global × Kept)) (entry : String Global × Kept) → statements_of (entries ++ entry ∷ []) ≡ statements_of entries ++ statement_of entry ∷ []
statements_of-push [] entry = refl
statements_of-push (first ∷ entries) entry = ap (λ others. statement_of first ∷ others) (statements_of-push entries entry)

-- where nothing is seen, nothing is there
pub none-found : (entry : Option Kept) → option_map found_in entry ≡ None → entry ≡ None
none-found None e = refl
none-found (Some a) e = absurd (none-some (found_in a) (sym e))

abbrev or : {A : Type 0} → A → Option A → A
or other (Some a) = a
or other None = other

-- a kept statement in which the same is found, in another's place
pub statements_of-set : (entries : List (String Global × Kept)) (at : ℕ) (old new : Kept) → slice_get (map (λ e. e.1) entries) at ≡ Some old → found_in new ≡ found_in old → statements_of (set_value_at entries at new) ≡ statements_of entries
statements_of-set [] at old new is same = refl
statements_of-set (e ∷ es) zero old new is same = ap (λ (found : Option Found). record { name = string_bytes e.0; found = found } ∷ statements_of es) (same ∙ ap (λ k. found_in (or old k)) (sym is))
statements_of-set (e ∷ es) (suc at) old new is same = ap (λ others. statement_of e ∷ others) (statements_of-set es at old new is same)
