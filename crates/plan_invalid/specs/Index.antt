use Rattle.std.specs.Prelude.{◌≡◌, ℕ, ◌==◌, Bool, true, false, ◌&&◌, ◌||◌, not, List, Option, Some, None}
use Rattle.std.specs.Ordering.{nat_cmp, ordering_then}
use Rattle.std.specs.declared.cmp.Ordering.{Ordering}
use Rattle.std.specs.BTreeSet.{BTreeSet, contains}
use Rattle.q_base.specs.declared.ids.ObjId.{ObjId}
use Rattle.plan_invalid.specs.declared.source.Source.{Source}
use Rattle.plan_invalid.specs.Sources.{at_key, is_among}

-- pairs go by the object, and then by the key
abbrev pub pair_cmp : ObjId × ℕ → ObjId × ℕ → Ordering
pair_cmp left right = ordering_then (nat_cmp left.0.0 right.0.0) (nat_cmp left.1 right.1)

-- the key is listed under the object
abbrev pub is_listed : BTreeSet (ObjId × ℕ) → ObjId → ℕ → Bool
is_listed watchers id key = contains pair_cmp watchers (id, key)

-- the source, if there is one, watches the object
abbrev pub is_watched_by : Option Source → ObjId → Bool
is_watched_by None id = false
is_watched_by (Some source) id = is_among source.uses id

-- a key is listed under the objects that its source watches, and under no other
abbrev pub IsIndex : List (Option Source) → BTreeSet (ObjId × ℕ) → Type 0
IsIndex slots watchers = (id : ObjId) (key : ℕ) → is_listed watchers id key ≡ is_watched_by (at_key slots key) id

-- the key is listed under these objects too
abbrev pub ListsMore : BTreeSet (ObjId × ℕ) → BTreeSet (ObjId × ℕ) → ℕ → List ObjId → Type 0
ListsMore old new key ids = (id : ObjId) (other : ℕ) → is_listed new id other ≡ (is_among ids id && other == key || is_listed old id other)

-- the key is listed under some of these objects too
abbrev pub ListsSome : BTreeSet (ObjId × ℕ) → BTreeSet (ObjId × ℕ) → ℕ → List ObjId → Type 0
ListsSome old new key ids = (some : List ObjId) × ListsMore old new key some × ((id : ObjId) → is_among some id ≡ true → is_among ids id ≡ true)

-- the key is listed no more under those of these objects that are not kept
abbrev pub ListsLess : BTreeSet (ObjId × ℕ) → BTreeSet (ObjId × ℕ) → ℕ → List ObjId → List ObjId → Type 0
ListsLess old new key ids kept = (id : ObjId) (other : ℕ) → is_listed new id other ≡ (is_listed old id other && not (is_among ids id && not (is_among kept id) && other == key))
