use Rattle.std.proofs.Common.{◌≡◌, ℕ, ◌<◌, ◌≤◌, Bool, true, false, cond, eqb, Option, Some, None, List, [], ◌∷◌, ◌++◌, length, get_or, set, suc, zero, refl, sym, ap, ◌∙◌, arith}
use Rattle.std.specs.Option.{option_map, option_map_or}
use Rattle.std.specs.Prelude.{is_some, slice_get}
use Rattle.std.proofs.lemmas.Bool.Decides.{Decides-eqb}
use Rattle.q_base.specs.declared.ids.ObjId.{ObjId}
use Rattle.row_versions.specs.Stored.{Stored, position_of, slots_at}

none_parts : (b : Bool) (o : Option ℕ) → cond b (Some 0) (option_map (λ n. suc n) o) ≡ None → (b ≡ false) × (o ≡ None)
none_parts true o e = cc
none_parts false None e = (refl, refl)
none_parts false (Some n) e = cc

same_test : (n : ℕ) → eqb n n ≡ true
same_test n = (Decides-eqb n n).1 refl

-- the place of a new table, and the places of the others
pub position_of-new : (tables : List Stored) (table : Stored) → position_of table.id.0 tables ≡ None → position_of table.id.0 (tables ++ table ∷ []) ≡ Some (length tables)
position_of-new [] table e = ap (λ b. cond b (Some 0) None) (same_test table.id.0)
position_of-new (t ∷ tables) table e =
    let parts = none_parts (eqb t.id.0 table.id.0) (position_of table.id.0 tables) e in
    ap (λ b. cond b (Some 0) (option_map (λ n. suc n) (position_of table.id.0 (tables ++ table ∷ [])))) parts.0 ∙ ap (option_map (λ n. suc n)) (position_of-new tables table parts.1)

pub position_of-other : (tables : List Stored) (table : Stored) (id : ℕ) → eqb table.id.0 id ≡ false → position_of id (tables ++ table ∷ []) ≡ position_of id tables
position_of-other [] table id e = ap (λ b. cond b (Some 0) None) e
position_of-other (t ∷ tables) table id e =
    ap (λ o. cond (eqb t.id.0 id) (Some 0) (option_map (λ n. suc n) o)) (position_of-other tables table id e)

-- what a map of the places says after the new table was put into it
pub placed-new : (tables : List Stored) (table : Stored) (at : ℕ → Option ℕ) → position_of table.id.0 tables ≡ None → ((q : ℕ) → at q ≡ cond (eqb table.id.0 q) (Some (length tables)) (position_of q tables)) → (q : ℕ) → at q ≡ position_of q (tables ++ table ∷ [])
placed-new tables table at new told q = go (eqb table.id.0 q) refl
  where
    go : (b : Bool) → eqb table.id.0 q ≡ b → at q ≡ position_of q (tables ++ table ∷ [])
    go true e =
        let same : table.id.0 ≡ q = (Decides-eqb table.id.0 q).0 e in
        told q ∙ ap (λ b. cond b (Some (length tables)) (position_of q tables)) e ∙ sym (position_of-new tables table new) ∙ ap (λ n. position_of n (tables ++ table ∷ [])) same
    go false e =
        told q ∙ ap (λ b. cond b (Some (length tables)) (position_of q tables)) e ∙ sym (position_of-other tables table q e)

none_of : {A : Type 0} (o : Option A) → is_some o ≡ false → o ≡ None
none_of None e = refl
none_of (Some x) e = cc

pub position_none : (id : ℕ) (tables : List Stored) → is_some (position_of id tables) ≡ false → position_of id tables ≡ None
position_none id tables e = none_of (position_of id tables) e

pub slots_at_read : (tables : List Stored) (n : ℕ) (table : Stored) → n < length tables → table ≡ get_or tables n table → slots_at n tables ≡ table.slots
slots_at_read [] n table h e = absurd (omega arith)
slots_at_read (t ∷ tables) zero table h e = ap (λ (u : Stored). u.slots) (sym e)
slots_at_read (t ∷ tables) (suc n) table h e = slots_at_read tables n table (omega arith) e

pub slots_at_past : (tables : List Stored) (n : ℕ) → length tables ≤ n → slots_at n tables ≡ []
slots_at_past [] n h = refl
slots_at_past (t ∷ tables) zero h = absurd (omega arith)
slots_at_past (t ∷ tables) (suc n) h = slots_at_past tables n (omega arith)

-- a table rewritten under its id keeps all places
pub position_of-set : (tables : List Stored) (n : ℕ) (x y : Stored) (id : ℕ) → n < length tables → x ≡ get_or tables n x → y.id ≡ x.id → position_of id (set tables n y) ≡ position_of id tables
position_of-set [] n x y id h at e = absurd (omega arith)
position_of-set (t ∷ tables) zero x y id h at e =
    ap (λ (i : ObjId). cond (eqb i.0 id) (Some 0) (option_map (λ n. suc n) (position_of id tables))) (e ∙ ap (λ (u : Stored). u.id) at)
position_of-set (t ∷ tables) (suc n) x y id h at e =
    ap (λ o. cond (eqb t.id.0 id) (Some 0) (option_map (λ n. suc n) o)) (position_of-set tables n x y id (omega arith) at e)

pub position_below : (tables : List Stored) (id place : ℕ) → position_of id tables ≡ Some place → place < length tables
position_below [] id place e = cc
position_below (t ∷ tables) id place e = go (eqb t.id.0 id) (position_of id tables) place (λ n. position_below tables id n) e
  where
    go : (b : Bool) (o : Option ℕ) (place : ℕ) → ((n : ℕ) → o ≡ Some n → n < length tables) → cond b (Some 0) (option_map (λ n. suc n) o) ≡ Some place → place < suc (length tables)
    go true o place more e = let h : 0 ≡ place = cc in omega arith
    go false None place more e = cc
    go false (Some n) place more e = let h : suc n ≡ place = cc in omega (arith, more n refl)

pub slots_at_get : (tables : List Stored) (n : ℕ) → slots_at n tables ≡ option_map_or (λ (table : Stored). table.slots) (slice_get tables n) []
slots_at_get [] n = refl
slots_at_get (t ∷ tables) zero = refl
slots_at_get (t ∷ tables) (suc n) = slots_at_get tables n
