-- What unique indexes let stand.
use Rattle.std.proofs.Common.{◌≡◌, Bool, true, false, List, [], ◌∷◌, Ok, Err, refl, sym, cond, All}
use Rattle.std.proofs.lemmas.List.Elements.{All-nil, All-cons}
use Rattle.q_base.specs.declared.code.Code.TheVariants.{DuplicateKey}
use Rattle.query_meaning.specs.Rows.{Row}
use Rattle.query_meaning.specs.Changes.{Unique, has_twice, without_doubles}

abbrev HasNone : List Row → Unique → Type 0
HasNone rows index = has_twice index.places rows ≡ false

abbrev Kept : List Unique → List Row → List Row → Type 0
Kept uniques rows found = (found ≡ rows) × All (HasNone rows) uniques

pub kept : (uniques : List Unique) (rows found : List Row) → without_doubles uniques rows ≡ Ok found → Kept uniques rows found
kept [] rows found e = (sym (cc e), All-nil (HasNone rows))
kept (index ∷ uniques) rows found e = at (has_twice index.places rows) refl e (kept uniques rows found)
  where
    at : (test : Bool) → has_twice index.places rows ≡ test →
        cond test (Err (record { code = DuplicateKey; args = index.name ∷ [] })) (without_doubles uniques rows) ≡ Ok found →
        (without_doubles uniques rows ≡ Ok found → Kept uniques rows found) → Kept (index ∷ uniques) rows found
    at true is refused more = absurd (cc refused)
    at false is given more = let others = more given in (others.0, All-cons (HasNone rows) index uniques is others.1)
