use Rattle.std.proofs.Common.{◌≡◌, refl, sym, ap, subst, ◌∙◌, ℕ, ◌<◌, ◌++◌, List, [], ◌∷◌, Option, None, Some, Bool, true, false}
use Rattle.std.specs.Prelude.{Contains, IsSome}
use Rattle.q_base.specs.declared.ids.ObjId.{ObjId}
use Rattle.q_value.specs.declared.value.Value.{Value}
use Rattle.row_versions.specs.State.{State, shown, row_of, rows, replaced, without, Changes, KeepsTables, Inserts, Supersedes, Ends}
use Rattle.row_versions.specs.Stored.{Stored as Table, with_slot, in_place}
use Rattle.row_versions.specs.Versions.{with_version, superseded, ended}
use Rattle.row_versions.specs.declared.heaps.Change.{Change}
use Rattle.row_versions.specs.declared.slot.Deed.TheVariants.{Inserted, Superseded, Ended}
use Rattle.dml.specs.Changes.{ChangesTable, Shows, Stored, now}
use Rattle.dml.proofs.Stored.{replaced_none, without_none}

pub unchanged : (table : ObjId) (a : State) → ChangesTable table a a
unchanged table a = record {
  newest = refl;
  pins = refl;
  added = λ other is. is;
  others = λ other ne snap. refl;
  older = λ snap lt t. refl;
  pinned = λ snap has t. refl;
  marks = λ mark stands. record { stands = stands; names = λ t. refl };
}

pub both_change : (table : ObjId) (a b c : State) → ChangesTable table a b → ChangesTable table b c → ChangesTable table a c
both_change table a b c one two = record {
  newest = two.newest ∙ one.newest;
  pins = two.pins ∙ one.pins;
  added = λ other is. two.added other (one.added other is);
  others = λ other ne snap. two.others other ne snap ∙ one.others other ne snap;
  older = λ snap lt t. two.older snap (subst (λ n. snap < n) (sym one.newest) lt) t ∙ one.older snap lt t;
  pinned = λ snap has t. two.pinned snap (subst (λ pins. Contains pins snap) (sym one.pins) has) t ∙ one.pinned snap has t;
  marks = λ mark stands. record {
    stands = (two.marks mark (one.marks mark stands).stands).stands;
    names = λ t. (two.marks mark (one.marks mark stands).stands).names t ∙ (one.marks mark stands).names t;
  };
}

pub change_made : (change : Change) (table : ObjId) (after : List Table) (more : ℕ) (old new : State) → Changes change table after old new → KeepsTables more old new → ChangesTable table old new
change_made change table after more old new changes tables = record {
  newest = ap (λ (s : State). s.newest) changes.state;
  pins = ap (λ (s : State). s.pins) changes.state;
  added = tables.added;
  others = changes.others;
  older = changes.older;
  pinned = changes.pinned;
  marks = changes.marks;
}

pub row_replaced : (table : ObjId) (slot : ℕ) (row : List Value) (old new : State) → Supersedes table slot row old new → Shows table (replaced slot row (now old table)) old new
row_replaced table slot row old new made = record {
  only = change_made (record { place = made.place; deed = Superseded; moment = old.newest }) table (in_place made.place (superseded row old.newest) old.tables) 0 old new made.changes made.tables;
  shows = made.shows;
}

pub row_ended : (table : ObjId) (slot : ℕ) (old new : State) → Ends table slot old new → Shows table (without slot (now old table)) old new
row_ended table slot old new made = record {
  only = change_made (record { place = made.place; deed = Ended; moment = old.newest }) table (in_place made.place (ended old.newest) old.tables) 0 old new made.changes made.tables;
  shows = made.shows;
}

pub row_inserted : (table : ObjId) (slot : ℕ) (row : List Value) (old new : State) → Inserts table slot row old new → Shows table (now old table ++ (slot, row) ∷ []) old new
row_inserted table slot row old new made = record {
  only = change_made (record { place = made.place; deed = Inserted; moment = old.newest }) table (with_slot made.place.table (with_version row old.newest []) old.tables) 1 old new made.changes made.tables;
  shows = made.shows;
}

abbrev pub Law : Type 0
Law = (state : State) (table : ObjId) (slot snap : ℕ) → shown state table slot snap ≡ row_of slot (rows state table snap)

none_shown : (found : Option (List Value)) → (IsSome found → ⊥) → found ≡ None
none_shown None dead = refl
none_shown (Some row) dead = absurd (dead refl)

-- a slot that isn't live keeps the rows
pub none_replaced : Law → (table : ObjId) (slot : ℕ) (row : List Value) (state : State) → (IsSome (shown state table slot state.newest) → ⊥) → Shows table (replaced slot row (now state table)) state state
none_replaced law table slot row state dead = record {
  only = unchanged table state;
  shows = sym (replaced_none slot row (now state table) (sym (law state table slot state.newest) ∙ none_shown (shown state table slot state.newest) dead));
}

pub none_ended : Law → (table : ObjId) (slot : ℕ) (state : State) → (IsSome (shown state table slot state.newest) → ⊥) → Shows table (without slot (now state table)) state state
none_ended law table slot state dead = record {
  only = unchanged table state;
  shows = sym (without_none slot (now state table) (sym (law state table slot state.newest) ∙ none_shown (shown state table slot state.newest) dead));
}

-- one change after another
pub shows_then : (table : ObjId) (stored more : Stored) (a b c : State) → ChangesTable table a b → Shows table more b c → more ≡ stored → Shows table stored a c
shows_then table stored more a b c one two same = record {
  only = both_change table a b c one two.only;
  shows = two.shows ∙ same;
}

-- a test that failed and what it stands for
pub not_both : {A : Type 0} (test : Bool) → test ≡ false → (A → test ≡ true) → A → ⊥
not_both true failed told a = cc
not_both false failed told a = let h : false ≡ true = told a in cc
