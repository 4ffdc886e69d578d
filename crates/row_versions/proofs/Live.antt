use Rattle.std.proofs.Common.{◌≡◌, ℕ, ◌+◌, ◌<◌, Bool, true, false, cond, List, [], ◌∷◌, ◌++◌, length, get_or, suc, zero, refl, sym, ap, ◌∙◌, arith}
use Rattle.std.specs.Prelude.{count_by}
use Rattle.std.proofs.lemmas.List.Sums.{sum_by-cons, sum_by_push}
use Rattle.q_base.specs.declared.ids.ObjId.{ObjId}
use Rattle.row_versions.specs.declared.slot.Version.{Version}
use Rattle.row_versions.specs.Stored.{Stored, changed, in_slot, with_slot, slots_at, is_live, live_of}

abbrev pub one_if : Bool → ℕ
one_if b = cond b 1 0

count_by-changed : {A : Type 0} (p : A → Bool) (f : A → A) (xs : List A) (n : ℕ) (d : A) → n < length xs → count_by p (changed n f xs) + one_if (p (get_or xs n d)) ≡ count_by p xs + one_if (p (f (get_or xs n d)))
count_by-changed p f [] n d h = absurd (omega arith)
count_by-changed p f (x ∷ xs) zero d h =
    omega (arith, sum_by-cons (λ y. one_if (p y)) (f x) xs, sum_by-cons (λ y. one_if (p y)) x xs)
count_by-changed p f (x ∷ xs) (suc n) d h =
    omega (arith, sum_by-cons (λ y. one_if (p y)) x (changed n f xs), sum_by-cons (λ y. one_if (p y)) x xs, count_by-changed p f xs n d (omega arith))

live_of-cons : (table : Stored) (tables : List Stored) → live_of (table ∷ tables) ≡ count_by is_live table.slots + live_of tables
live_of-cons table tables = sum_by-cons (λ (t : Stored). count_by is_live t.slots) table tables

pub live_of-in_place : (f : List Version → List Version) (tables : List Stored) (table slot : ℕ) → slot < length (slots_at table tables) → live_of (changed table (in_slot slot f) tables) + one_if (is_live (get_or (slots_at table tables) slot [])) ≡ live_of tables + one_if (is_live (f (get_or (slots_at table tables) slot [])))
live_of-in_place f [] table slot h = absurd (omega arith)
live_of-in_place f (t ∷ tables) zero slot h =
    omega (arith, live_of-cons (in_slot slot f t) tables, live_of-cons t tables, count_by-changed is_live f t.slots slot [] h)
live_of-in_place f (t ∷ tables) (suc table) slot h =
    omega (arith, live_of-cons t (changed table (in_slot slot f) tables), live_of-cons t tables, live_of-in_place f tables table slot h)

-- a slot that has versions was given
pub given_slot : (slots : List (List Version)) (slot : ℕ) → (get_or slots slot [] ≡ [] → ⊥) → slot < length slots
given_slot [] slot h = absurd (h refl)
given_slot (versions ∷ slots) zero h = omega arith
given_slot (versions ∷ slots) (suc slot) h = let lt = given_slot slots slot h in omega arith

pub live_given : (slots : List (List Version)) (slot : ℕ) → is_live (get_or slots slot []) ≡ true → slot < length slots
live_given slots slot live = given_slot slots slot (λ none. not_live (sym (ap is_live none) ∙ live))
  where
    not_live : false ≡ true → ⊥
    not_live e = cc

pub live_of-with_slot : (versions : List Version) (tables : List Stored) (table : ℕ) → table < length tables → live_of (with_slot table versions tables) ≡ live_of tables + one_if (is_live versions)
live_of-with_slot versions [] table h = absurd (omega arith)
live_of-with_slot versions (t ∷ tables) zero h =
    omega (arith, live_of-cons (record t { slots = t.slots ++ versions ∷ [] }) tables, live_of-cons t tables, sum_by_push (λ v. one_if (is_live v)) t.slots versions)
live_of-with_slot versions (t ∷ tables) (suc table) h =
    omega (arith, live_of-cons t (with_slot table versions tables), live_of-cons t tables, live_of-with_slot versions tables table (omega arith))

pub live_of-padded : (tables : List Stored) (table : ℕ) → live_of (with_slot table [] tables) ≡ live_of tables
live_of-padded [] table = refl
live_of-padded (t ∷ tables) zero =
    omega (arith, live_of-cons (record t { slots = t.slots ++ [] ∷ [] }) tables, live_of-cons t tables, sum_by_push (λ v. one_if (is_live v)) t.slots [])
live_of-padded (t ∷ tables) (suc table) =
    omega (arith, live_of-cons t (with_slot table [] tables), live_of-cons t tables, live_of-padded tables table)

pub live_of-joined : (tables : List Stored) (id : ObjId) → live_of (tables ++ record { id = id; slots = [] } ∷ []) ≡ live_of tables
live_of-joined tables id = omega (arith, sum_by_push (λ (t : Stored). count_by is_live t.slots) tables (record { id = id; slots = [] }))
