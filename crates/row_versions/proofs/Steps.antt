use Rattle.std.proofs.Common.{◌≡◌, ℕ, ◌+◌, ◌-◌, Bool, true, false, Option, Some, None, List, [], ◌∷◌, ◌++◌, cond, eqb, length, get_or, refl, sym, ap, ◌∙◌, subst, arith}
use Rattle.std.specs.Prelude.{is_some}
use Rattle.std.specs.Option.{option_map_or}
use Rattle.std.proofs.lemmas.Bool.{eqb-true}
use Rattle.q_base.specs.declared.ids.ObjId.{ObjId}
use Rattle.row_versions.specs.declared.heaps.Change.{Change}
use Rattle.row_versions.specs.declared.tables.Place.{Place}
use Rattle.row_versions.specs.Stored.{Stored, with_table, slots_at, slots_of, versions_in, rows_in, position_of}
use Rattle.row_versions.specs.Sound.{IsHistory, IsSound}
use Rattle.row_versions.specs.State.{State, KeepsRows, KeepsMarks, KeepsTables, undone}
use Rattle.row_versions.proofs.Histories.{shown_in_newest, IsHistory-later}
use Rattle.row_versions.proofs.Positions.{position_of-new, position_of-other, slots_at_past, position_none}
use Rattle.row_versions.proofs.Places.{slots_at_joined}
use Rattle.row_versions.proofs.Rows.{rows_in-alike, same_rows}
use Rattle.row_versions.proofs.Logs.{undone_joined, undone_position, undone_dated}
use Rattle.row_versions.proofs.Sounds.{sound_joined}
use Rattle.row_versions.proofs.TableLemmas.{position_of-longer, tables_kept}

-- the next moment shows what the newest did
later_rows : (tables : List Stored) (newest : ℕ) → ((t s : ℕ) → IsHistory newest (get_or (slots_at t tables) s [])) → (t : ℕ) → rows_in 0 (slots_at t tables) (newest + 1) ≡ rows_in 0 (slots_at t tables) newest
later_rows tables newest dated t =
    rows_in-alike (slots_at t tables) 0 (newest + 1) newest
    (λ s. let versions = get_or (slots_at t tables) s [] in shown_in_newest (newest + 1) versions (IsHistory-later newest (newest + 1) versions (omega arith) (dated t s)) ∙ sym (shown_in_newest newest versions (dated t s)))

pub advanced_rows : (state : State) → ((place : Place) → IsHistory state.newest (versions_in place state.tables)) → (table : ObjId) → rows_in 0 (slots_of table state.tables) (state.newest + 1) ≡ rows_in 0 (slots_of table state.tables) state.newest
advanced_rows state dated table = same_rows state.tables state.tables table state.newest (state.newest + 1) refl (later_rows state.tables state.newest (λ t s. dated (record { table = t; slot = s })))

pub advanced_marks : (state : State) → ((place : Place) → IsHistory state.newest (versions_in place state.tables)) → KeepsMarks state (record state { newest = state.newest + 1 })
advanced_marks state dated = λ mark stands.
    let past = undone (length state.log - mark.changes) state.tables state.log in
    record {
      stands = record { within = stands.within; made = omega (arith, stands.made); later = stands.later };
      names = λ table. same_rows past past table state.newest (state.newest + 1) refl (later_rows past state.newest (undone_dated (length state.log - mark.changes) state.newest state.tables state.log (λ t s. dated (record { table = t; slot = s }))));
    }

-- a table that was not there has no slots, and has none when it was added
slots_of_joined : (tables : List Stored) (id other : ObjId) → position_of id.0 tables ≡ None → slots_of other (tables ++ record { id = id; slots = [] } ∷ []) ≡ slots_of other tables
slots_of_joined tables id other absent = go (eqb id.0 other.0) refl
  where
    table : Stored
    table = record { id = id; slots = [] }

    some : (o : Option ℕ) → option_map_or (λ t. slots_at t (tables ++ record { id = id; slots = [] } ∷ [])) o [] ≡ option_map_or (λ t. slots_at t tables) o []
    some None = refl
    some (Some t) = slots_at_joined tables id t

    go : (b : Bool) → eqb id.0 other.0 ≡ b → slots_of other (tables ++ record { id = id; slots = [] } ∷ []) ≡ slots_of other tables
    go true e =
        let same : id.0 ≡ other.0 = eqb-true id.0 other.0 e in
        ap (λ n. option_map_or (λ t. slots_at t (tables ++ record { id = id; slots = [] } ∷ [])) (position_of n (tables ++ record { id = id; slots = [] } ∷ [])) []) (sym same)
        ∙ ap (λ o. option_map_or (λ t. slots_at t (tables ++ record { id = id; slots = [] } ∷ [])) o []) (position_of-new tables (record { id = id; slots = [] }) absent)
        ∙ slots_at_joined tables id (length tables) ∙ slots_at_past tables (length tables) (omega arith)
        ∙ sym (ap (λ o. option_map_or (λ t. slots_at t tables) o []) (ap (λ n. position_of n tables) (sym same) ∙ absent))
    go false e =
        ap (λ o. option_map_or (λ t. slots_at t (tables ++ record { id = id; slots = [] } ∷ [])) o []) (position_of-other tables (record { id = id; slots = [] }) other.0 e) ∙ some (position_of other.0 tables)

-- what holds of the tables with one more, whether it was there or not
table_cases : (P : List Stored → Type 0) (id : ObjId) (tables : List Stored) → P tables → (position_of id.0 tables ≡ None → P (tables ++ record { id = id; slots = [] } ∷ [])) → P (with_table id tables)
table_cases P id tables there new = go (position_of id.0 tables) refl
  where
    go : (o : Option ℕ) → position_of id.0 tables ≡ o → P (cond (is_some (position_of id.0 tables)) tables (tables ++ record { id = id; slots = [] } ∷ []))
    go None e = subst (λ (o : Option ℕ). P (cond (is_some o) tables (tables ++ record { id = id; slots = [] } ∷ []))) (sym e) (new e)
    go (Some n) e = subst (λ (o : Option ℕ). P (cond (is_some o) tables (tables ++ record { id = id; slots = [] } ∷ []))) (sym e) there

pub sound_table : (id : ObjId) (tables : List Stored) (newest live : ℕ) (pins : List ℕ) (log : List Change) (stale : List Place) → IsSound tables newest live pins log stale → IsSound (with_table id tables) newest live pins log stale
sound_table id tables newest live pins log stale h =
    table_cases (λ ts. IsSound ts newest live pins log stale) id tables h (λ absent. sound_joined id tables newest live pins log stale h)

pub table_rows : (id : ObjId) (state : State) (snap : ℕ) → KeepsRows state (record state { tables = with_table id state.tables }) snap
table_rows id state snap = λ other.
    table_cases (λ ts. rows_in 0 (slots_of other ts) snap ≡ rows_in 0 (slots_of other state.tables) snap) id state.tables refl (λ absent. ap (λ slots. rows_in 0 slots snap) (slots_of_joined state.tables id other absent))

pub table_marks : (id : ObjId) (state : State) → KeepsMarks state (record state { tables = with_table id state.tables })
table_marks id state = λ mark stands.
    let n = length state.log - mark.changes in
    record {
      stands = record { within = stands.within; made = stands.made; later = stands.later };
      names = λ other.
          table_cases (λ ts. rows_in 0 (slots_of other (undone n ts state.log)) state.newest ≡ rows_in 0 (slots_of other (undone n state.tables state.log)) state.newest) id state.tables refl
          (λ absent.
          ap (λ ts. rows_in 0 (slots_of other ts) state.newest) (undone_joined n state.tables id state.log)
          ∙ ap (λ slots. rows_in 0 slots state.newest) (slots_of_joined (undone n state.tables state.log) id other (undone_position n state.tables state.log id.0 ∙ absent)));
    }

pub table_kept : (id : ObjId) (state : State) → KeepsTables 0 state (record state { tables = with_table id state.tables })
table_kept id state =
    table_cases (λ ts. KeepsTables 0 state (record state { tables = ts })) id state.tables
    (tables_kept 0 state state (λ place. refl) (λ t. omega arith))
    (λ absent. record {
      added = λ table there. position_of-longer state.tables (record { id = id; slots = [] } ∷ []) table.0 there;
      slots = λ table. omega (arith, ap length (slots_of_joined state.tables id table absent));
    })

is_some_new : (tables : List Stored) (id : ObjId) → position_of id.0 tables ≡ None → is_some (position_of id.0 (tables ++ record { id = id; slots = [] } ∷ [])) ≡ true
is_some_new tables id absent = ap is_some (position_of-new tables (record { id = id; slots = [] }) absent)

pub table_added : (id : ObjId) (tables : List Stored) → is_some (position_of id.0 (with_table id tables)) ≡ true
table_added id tables = go (is_some (position_of id.0 tables)) refl
  where
    go : (b : Bool) → is_some (position_of id.0 tables) ≡ b → is_some (position_of id.0 (cond (is_some (position_of id.0 tables)) tables (tables ++ record { id = id; slots = [] } ∷ []))) ≡ true
    go true e = subst (λ b. is_some (position_of id.0 (cond b tables (tables ++ record { id = id; slots = [] } ∷ []))) ≡ true) (sym e) e
    go false e = subst (λ b. is_some (position_of id.0 (cond b tables (tables ++ record { id = id; slots = [] } ∷ []))) ≡ true) (sym e) (is_some_new tables id (position_none id.0 tables e))
