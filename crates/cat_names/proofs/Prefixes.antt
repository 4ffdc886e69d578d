-- Why a list that differs from the kept one early isn't it.
use Rattle.std.proofs.Common.{◌≡◌, ℕ, zero, suc, ◌<◌, ◌≤◌, Bool, true, false, Option, None, Some, List, [], ◌∷◌, ◌++◌, length, take, drop, get_or, drop-cons, sym, ap, refl, ◌∙◌, subst, arith}
use Rattle.std.proofs.lemmas.List.{append_assoc, append-nil}
use Rattle.q_base.specs.declared.ids.SchemaId.{SchemaId}
use Rattle.cat_names.specs.declared.rows.SchemaRow.{SchemaRow}
use Rattle.cat_names.specs.Paths.{Text, schema_named, is_listed, with_schema, with_path, IsOther, Differs}

abbrev Goes : List SchemaId → List SchemaId → Type 0
Goes found all = (more : List SchemaId) × (all ≡ found ++ more)

goes_once : (found : List SchemaId) (schema : Option SchemaId) → Goes found (with_schema schema found)
unfolding with_schema
goes_once found None = ([], sym (append-nil found))
goes_once found (Some id) = by_test (is_listed id found) refl
  where
    by_test : (b : Bool) → is_listed id found ≡ b → Goes found (with_schema (Some id) found)
    by_test true e = ([], rw e (sym (append-nil found)))
    by_test false e = (id ∷ [], grind arith)

-- what was found first stays first
goes_on : (schemas : List SchemaRow) (found : List SchemaId) (path : List Text) → Goes found (with_path schemas found path)
goes_on schemas found [] = ([], sym (append-nil found))
goes_on schemas found (name ∷ path) =
    let one = goes_once found (schema_named schemas name) in
    let rest = goes_on schemas (with_schema (schema_named schemas name) found) path in
    (one.0 ++ rest.0, rest.1 ∙ ap (λ (xs : List SchemaId). xs ++ rest.0) one.1 ∙ append_assoc found one.0 rest.0)

other_here : (count : ℕ) (kept more : List SchemaId) (id : SchemaId) → count ≤ length kept → (take count kept ++ id ∷ []) ++ more ≡ kept → IsOther (drop count kept) id → ⊥
other_here zero [] more id le e other = grind arith
other_here zero (next ∷ kept) more id le e other = other (grind arith)
other_here (suc count) [] more id le e other = omega arith
other_here (suc count) (next ∷ kept) more id le e other = other_here count kept more id (omega arith) (grind arith) other

pub from_place : (schemas : List SchemaRow) (found : List SchemaId) (path : List Text) (i : ℕ) (name : Text) → i < length path → name ≡ get_or path i name → with_path schemas found (drop i path) ≡ with_path schemas (with_schema (schema_named schemas name) found) (drop (suc i) path)
from_place schemas found path i name within at = rw (drop-cons path i name within, ← at) refl

pub not_same : (schemas : List SchemaRow) (kept : List SchemaId) (count : ℕ) (name : Text) (path : List Text) → count ≤ length kept → Differs kept count (schema_named schemas name) → with_path schemas (with_schema (schema_named schemas name) (take count kept)) path ≡ kept → ⊥
unfolding with_schema
not_same schemas kept count name path le differs e = by_schema (schema_named schemas name) refl
  where
    by_schema : (schema : Option SchemaId) → schema_named schemas name ≡ schema → ⊥
    by_schema None none = subst (λ s. Differs kept count s) none differs
    by_schema (Some id) some =
        let d = subst (λ s. Differs kept count s) some differs in
        let rest = goes_on schemas (with_schema (schema_named schemas name) (take count kept)) path in
        other_here count kept rest.0 id le (grind (arith, d.0, some, rest.1, e)) d.1
