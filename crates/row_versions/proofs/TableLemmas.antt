-- Tables that stay, and how many slots they have.
use Rattle.std.proofs.Common.{◌≡◌, ℕ, ◌+◌, ◌≤◌, Bool, true, false, cond, eqb, Option, Some, None, List, [], ◌∷◌, ◌++◌, length, suc, zero, refl, sym, ap, ◌∙◌, subst, inl, inr, arith}
use Rattle.std.specs.Prelude.{IsSome, ◌⊎◌}
use Rattle.std.specs.Option.{option_map, option_map_or}
use Rattle.std.proofs.lemmas.Bool.{cases_eq}
use Rattle.std.proofs.lemmas.List.{length-append}
use Rattle.row_versions.specs.declared.slot.Version.{Version}
use Rattle.row_versions.specs.declared.tables.Place.{Place}
use Rattle.row_versions.specs.Stored.{Stored, in_place, with_slot, slots_at, slots_of, position_of}
use Rattle.row_versions.specs.State.{State, KeepsTables}
use Rattle.row_versions.proofs.Changed.{length-changed}
use Rattle.row_versions.proofs.Places.{slots_at-in_place, slots_at-in_place_other}

pub in_place_length : (f : List Version → List Version) (tables : List Stored) (place : Place) (t : ℕ) → length (slots_at t (in_place place f tables)) ≡ length (slots_at t tables)
in_place_length f tables place t = go (cases_eq t place.table)
  where
    go : (t ≡ place.table) ⊎ (t ≡ place.table → ⊥) → length (slots_at t (in_place place f tables)) ≡ length (slots_at t tables)
    go (inl e) =
        subst (λ n. length (slots_at n (in_place place f tables)) ≡ length (slots_at n tables)) (sym e) (ap length (slots_at-in_place f tables place.table place.slot) ∙ length-changed f (slots_at place.table tables) place.slot)
    go (inr ne) = ap length (slots_at-in_place_other f tables place t ne)

pub slots_at-more : (versions : List Version) (tables : List Stored) (n t : ℕ) → length (slots_at t (with_slot n versions tables)) ≤ length (slots_at t tables) + 1
slots_at-more versions [] n t = omega arith
slots_at-more versions (table ∷ tables) zero zero = omega (arith, length-append table.slots (versions ∷ []))
slots_at-more versions (table ∷ tables) zero (suc t) = omega arith
slots_at-more versions (table ∷ tables) (suc n) zero = omega arith
slots_at-more versions (table ∷ tables) (suc n) (suc t) = slots_at-more versions tables n t

-- a table that is there is there among more
pub position_of-longer : (tables more : List Stored) (id : ℕ) → IsSome (position_of id tables) → IsSome (position_of id (tables ++ more))
position_of-longer [] more id there = cc
position_of-longer (table ∷ tables) more id there = go (position_of-longer tables more id) (eqb table.id.0 id) there
  where
    later : (o p : Option ℕ) → (IsSome o → IsSome p) → IsSome (option_map (λ n. suc n) o) → IsSome (option_map (λ n. suc n) p)
    later None p f h = cc
    later (Some n) None f h = let none : false ≡ true = f refl in cc
    later (Some n) (Some m) f h = refl

    go : (IsSome (position_of id tables) → IsSome (position_of id (tables ++ more))) → (b : Bool) → IsSome (cond b (Some 0) (option_map (λ n. suc n) (position_of id tables))) → IsSome (cond b (Some 0) (option_map (λ n. suc n) (position_of id (tables ++ more))))
    go more_there true h = h
    go more_there false h = later (position_of id tables) (position_of id (tables ++ more)) more_there h

-- each table at its place, with no more than so many slots more
pub tables_kept : (more : ℕ) (old new : State) → ((id : ℕ) → position_of id new.tables ≡ position_of id old.tables) → ((t : ℕ) → length (slots_at t new.tables) ≤ length (slots_at t old.tables) + more) → KeepsTables more old new
tables_kept more old new places at = record {
  added = λ table there. subst (λ (o : Option ℕ). IsSome o) (sym (places table.0)) there;
  slots = λ table.
      subst (λ (o : Option ℕ). length (option_map_or (λ t. slots_at t new.tables) o []) ≤ length (slots_of table old.tables) + more) (sym (places table.0)) (go (position_of table.0 old.tables));
}
  where
    go : (o : Option ℕ) → length (option_map_or (λ t. slots_at t new.tables) o []) ≤ length (option_map_or (λ t. slots_at t old.tables) o []) + more
    go None = omega arith
    go (Some t) = at t
