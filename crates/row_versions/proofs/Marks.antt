use Rattle.std.proofs.Common.{◌≡◌, ℕ, ◌-◌, ◌<◌, ◌≤◌, Bool, true, false, Option, Some, None, List, [], ◌∷◌, cond, eqb, length, take, suc, zero, refl, sym, ap, ◌∙◌, subst, arith}
use Rattle.std.specs.Prelude.{All, Contains}
use Rattle.std.specs.Option.{option_map, option_map_or}
use Rattle.std.proofs.lemmas.Bool.{eqb-true}
use Rattle.q_base.specs.declared.ids.ObjId.{ObjId}
use Rattle.row_versions.specs.declared.heaps.Change.{Change}
use Rattle.row_versions.specs.Marks.{Mark}
use Rattle.row_versions.specs.declared.tables.Place.{Place}
use Rattle.row_versions.specs.Stored.{Stored, slots_at, slots_of, rows_in, position_of}
use Rattle.row_versions.specs.Sound.{IsSound}
use Rattle.row_versions.specs.State.{State, KeepsMark, Stands, Changes, before, undone}
use Rattle.row_versions.proofs.Rows.{same_rows}
use Rattle.row_versions.specs.Versions.{taken_back}
use Rattle.row_versions.proofs.Places.{position_of-in_place}
use Rattle.row_versions.proofs.Logs.{undone_position}

-- no two tables have one place
same_table : (tables : List Stored) (one other place : ℕ) → position_of one tables ≡ Some place → position_of other tables ≡ Some place → one ≡ other
same_table [] one other place e f = cc
same_table (t ∷ tables) one other place e f = go (eqb t.id.0 one) (eqb t.id.0 other) refl refl place e f (λ n. same_table tables one other n)
  where
    suc_of : (o : Option ℕ) (n : ℕ) → option_map (λ k. suc k) o ≡ Some (suc n) → o ≡ Some n
    suc_of None n e = cc
    suc_of (Some k) n e = ap Some (same k n e)
      where
        same : (k n : ℕ) → Some (suc k) ≡ Some (suc n) → k ≡ n
        same k n e = let h : suc k ≡ suc n = cc in omega arith

    zero_of : (o : Option ℕ) → option_map (λ k. suc k) o ≡ Some 0 → ⊥
    zero_of None e = cc
    zero_of (Some k) e = let h : suc k ≡ 0 = cc in omega arith

    go : (a b : Bool) → eqb t.id.0 one ≡ a → eqb t.id.0 other ≡ b → (place : ℕ) → cond a (Some 0) (option_map (λ k. suc k) (position_of one tables)) ≡ Some place → cond b (Some 0) (option_map (λ k. suc k) (position_of other tables)) ≡ Some place → ((n : ℕ) → position_of one tables ≡ Some n → position_of other tables ≡ Some n → one ≡ other) → one ≡ other
    go true true p q place e f more = sym (eqb-true t.id.0 one p) ∙ eqb-true t.id.0 other q
    go true false p q place e f more = absurd (zero_of (position_of other tables) (f ∙ sym e))
    go false true p q place e f more = absurd (zero_of (position_of one tables) (e ∙ sym f))
    go false false p q zero e f more = absurd (zero_of (position_of one tables) e)
    go false false p q (suc n) e f more = more n (suc_of (position_of one tables) n e) (suc_of (position_of other tables) n f)

All-more : {A : Type 0} (P : A → Type 0) (x : A) (xs : List A) → P x → All P xs → All P (x ∷ xs)
All-more P x xs first rest zero d lt = first
All-more P x xs first rest (suc k) d lt = rest k d (omega arith)

-- a change of one table that no snapshot given so far sees
pub changes_made : (change : Change) (table : ObjId) (after : List Stored) (old : State) (live : ℕ) (stale : List Place) → IsSound old.tables old.newest live old.pins old.log stale
    → position_of table.0 old.tables ≡ Some change.place.table → change.moment ≡ old.newest
    → ((id : ℕ) → position_of id after ≡ position_of id old.tables)
    → ((t : ℕ) → (t ≡ change.place.table → ⊥) → slots_at t after ≡ slots_at t old.tables)
    → ((snap t : ℕ) → snap < old.newest → rows_in 0 (slots_at t after) snap ≡ rows_in 0 (slots_at t old.tables) snap)
    → ((k t : ℕ) → rows_in 0 (slots_at t (undone k (before change after) old.log)) old.newest ≡ rows_in 0 (slots_at t (undone k old.tables old.log)) old.newest)
    → Changes change table after old (record old { tables = after; log = change ∷ old.log })
changes_made change table after old live stale sound added moment places others older back = record {
  added = added;
  moment = moment;
  state = refl;
  others = λ other ne snap. other_rows other ne snap (position_of other.0 old.tables) refl;
  older = λ snap lt id. same_rows old.tables after id snap snap (places id.0) (λ t. older snap t lt);
  pinned = λ snap pin id. same_rows old.tables after id snap snap (places id.0) (λ t. older snap t (pinned snap pin));
  marks = λ mark stands. keeps mark stands;
}
  where
    other_rows : (other : ObjId) → (other.0 ≡ table.0 → ⊥) → (snap : ℕ) (place : Option ℕ) → position_of other.0 old.tables ≡ place → rows_in 0 (slots_of other after) snap ≡ rows_in 0 (slots_of other old.tables) snap
    other_rows other ne snap None e =
        ap (λ o. rows_in 0 (option_map_or (λ t. slots_at t after) o []) snap) (places other.0 ∙ e) ∙ sym (ap (λ o. rows_in 0 (option_map_or (λ t. slots_at t old.tables) o []) snap) e)
    other_rows other ne snap (Some t) e =
        ap (λ o. rows_in 0 (option_map_or (λ t. slots_at t after) o []) snap) (places other.0 ∙ e) ∙ ap (λ slots. rows_in 0 slots snap) (others t (λ same. ne (same_table old.tables other.0 table.0 t e (added ∙ ap Some (sym same))))) ∙ sym (ap (λ o. rows_in 0 (option_map_or (λ t. slots_at t old.tables) o []) snap) e)

    pinned : (snap : ℕ) → Contains old.pins snap → snap < old.newest
    pinned snap pin = subst (λ k. k < old.newest) pin.2 (sound.pinned pin.0 snap pin.1)

    keeps : (mark : Mark) → Stands old mark → KeepsMark old (record old { tables = after; log = change ∷ old.log }) mark
    keeps mark stands =
        let n = length old.log - mark.changes in
        let step : suc (length old.log) - mark.changes ≡ suc n = omega (arith, stands.within) in
        let first : mark.moment ≤ change.moment = omega (arith, stands.made) in
        record {
          stands = record {
            within = omega (arith, stands.within);
            made = stands.made;
            later = subst (λ k. All (λ (c : Change). mark.moment ≤ c.moment) (take k (change ∷ old.log))) (sym step) (All-more (λ (c : Change). mark.moment ≤ c.moment) change (take n old.log) first stands.later);
          };
          names = λ id.
              ap (λ k. rows_in 0 (slots_of id (undone k after (change ∷ old.log))) old.newest) step ∙ same_rows (undone n old.tables old.log) (undone n (before change after) old.log) id old.newest old.newest (undone_position n (before change after) old.log id.0 ∙ position_of-in_place (taken_back change.deed) after change.place id.0 ∙ places id.0 ∙ sym (undone_position n old.tables old.log id.0)) (λ t. back n t);
        }
