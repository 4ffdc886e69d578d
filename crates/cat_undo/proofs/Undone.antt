use Rattle.std.proofs.Common.{◌≡◌, refl, sym, ◌∙◌, ap, ℕ, zero, suc, ◌+◌, Bool, true, false, nat_lt, List, [], ◌∷◌, ◌++◌, drop, reverse, length, if◌then◌else◌, arith}
use Rattle.std.proofs.lemmas.List.{reverse-append, drop-drop}
use Rattle.std.specs.Global.{Vec}
use Rattle.q_base.specs.declared.ids.ObjId.{ObjId}
use Rattle.cat_core.specs.declared.slots.Slot.{Slot}
use Rattle.cat_core.specs.declared.catalog.Undo.{Undo}
use Rattle.cat_core.specs.Stamps.{StampsState}
use Rattle.cat_core.specs.Steps.{CatalogState, taken_back}
use Rattle.cat_undo.specs.declared.now.Now.{Now}
use Rattle.cat_undo.specs.declared.store.CatStore.{CatStore}
use Rattle.cat_undo.specs.declared.store.CatMark.{CatMark}
use Rattle.cat_undo.specs.Marked.{touched_all}
use Rattle.cat_undo.specs.Restored.{undone, heard, settled, all_settled, all_heard, told_settled, told_restamped}
use Rattle.cat_undo.specs.Store.{IsBack, RolledBack, since, with_catalog, told_back}

-- no step was taken back
pub back_zero : (store : CatStore) → IsBack 0 store store
back_zero store = record { slots = refl; next_id = refl; stamps = refl; last_stamp = refl; log = refl }

-- some steps taken back, and then others
undone-nothing : (n : ℕ) (slots : List Slot) → undone n [] slots ≡ slots
undone-nothing zero slots = refl
undone-nothing (suc n) slots = refl

undone-sum : (n m : ℕ) (steps : List Undo) (slots : List Slot) → undone m (drop n steps) (undone n steps slots) ≡ undone (n + m) steps slots
undone-sum zero m steps slots =
    let same : m ≡ 0 + m = omega arith in
    ap (λ k. undone k steps slots) same
undone-sum (suc n) m [] slots = undone-nothing m slots ∙ sym (undone-nothing (suc n + m) slots)
undone-sum (suc n) m (step ∷ steps) slots =
    let same : suc (n + m) ≡ suc n + m = omega arith in
    undone-sum n m steps (taken_back step slots) ∙ ap (λ k. undone k (step ∷ steps) slots) same

-- one step more
pub back_more : (n : ℕ) (old mid new : CatStore) → IsBack n old mid → IsBack 1 mid new → IsBack (n + 1) old new
back_more n old mid new before last = record {
  slots = last.slots ∙ ap (λ steps. undone 1 steps mid.held.catalog.slots) before.log ∙ ap (undone 1 (drop n (reverse old.log.items))) before.slots ∙ undone-sum n 1 (reverse old.log.items) old.held.catalog.slots;
  next_id = last.next_id ∙ before.next_id;
  stamps = last.stamps ∙ before.stamps;
  last_stamp = last.last_stamp ∙ before.last_stamp;
  log = last.log ∙ ap (drop 1) before.log ∙ drop-drop 1 n (reverse old.log.items);
}

-- the last step of the log
reverse-last : (log rest : List Undo) (step : Undo) → log ≡ rest ++ step ∷ [] → reverse log ≡ step ∷ reverse rest
reverse-last log rest step e = ap reverse e ∙ reverse-append rest (step ∷ [])

pub back_last : (old new : CatStore) (step : Undo) → old.log.items ≡ new.log.items ++ step ∷ [] → new.held.catalog.slots ≡ taken_back step old.held.catalog.slots → new.held.catalog.next_id ≡ old.held.catalog.next_id → new.held.stamps ≡ old.held.stamps → new.held.last_stamp ≡ old.held.last_stamp → IsBack 1 old new
back_last old new step log slots next_id stamps last_stamp = record {
  slots = slots ∙ ap (λ steps. undone 1 steps old.held.catalog.slots) (sym (reverse-last old.log.items new.log.items step log));
  next_id = next_id;
  stamps = stamps;
  last_stamp = last_stamp;
  log = ap (drop 1) (sym (reverse-last old.log.items new.log.items step log));
}

-- the log without a last step is empty
pub back_empty : (old new : CatStore) → old.log.items ≡ [] → new.log.items ≡ [] → new.held ≡ old.held → IsBack 1 old new
back_empty old new was is same = record {
  slots = ap (λ (now : Now). now.catalog.slots) same ∙ ap (λ steps. undone 1 (reverse steps) old.held.catalog.slots) (sym was);
  next_id = ap (λ (now : Now). now.catalog.next_id) same;
  stamps = ap (λ (now : Now). now.stamps) same;
  last_stamp = ap (λ (now : Now). now.last_stamp) same;
  log = ap reverse is ∙ ap (λ (steps : List Undo). drop 1 (reverse steps)) (sym was);
}

-- settling leaves the catalog as it is
settled_catalog : (copied : ℕ) (now : Now) → (all_settled copied now).catalog ≡ now.catalog
settled_catalog copied now = go (nat_lt copied now.stamps.all.0)
  where
    go : (late : Bool) → (if late then touched_all now else now).catalog ≡ now.catalog
    go true = refl
    go false = refl

parts : (now : Now) (catalog : CatalogState) (stamps : StampsState) (last : ℕ) → now.catalog ≡ catalog → now.stamps ≡ stamps → now.last_stamp ≡ last → now ≡ record { catalog = catalog; stamps = stamps; last_stamp = last }
parts now catalog stamps last catalog_is stamps_is last_is =
    ap (λ (c : CatalogState). record { catalog = c; stamps = now.stamps; last_stamp = now.last_stamp }) catalog_is
    ∙ ap (λ (s : StampsState). record { catalog = catalog; stamps = s; last_stamp = now.last_stamp }) stamps_is
    ∙ ap (λ (l : ℕ). record { catalog = catalog; stamps = stamps; last_stamp = l }) last_is

-- and the catalog settled behind it
pub rolled_back : (mark : CatMark) (old mid new : CatStore) → IsBack (since mark old) old mid → new.held ≡ all_settled mark.stamps (settled (length mid.held.stamps.rows) mark.stamps mid.held) → new.log ≡ mid.log → RolledBack mark old new
rolled_back mark old mid new back held log =
    let catalog : new.held.catalog ≡ mid.held.catalog = ap (λ (now : Now). now.catalog) held ∙ settled_catalog mark.stamps (settled (length mid.held.stamps.rows) mark.stamps mid.held) in
    let before : mid.held ≡ with_catalog new.held.catalog old.held = parts mid.held new.held.catalog old.held.stamps old.held.last_stamp (sym catalog) back.stamps back.last_stamp in
    record {
      slots = ap (λ (c : CatalogState). c.slots) catalog ∙ back.slots;
      next_id = ap (λ (c : CatalogState). c.next_id) catalog ∙ back.next_id;
      held = held ∙ ap (λ (now : Now). all_settled mark.stamps (settled (length now.stamps.rows) mark.stamps now)) before;
      log = ap (λ (l : Vec Undo). reverse l.items) log ∙ back.log;
    }

-- and those that are told of it
pub told_of : {T : Type 0} (hear : T → ObjId → T) (hear_all : T → T) (mark : CatMark) (old mid : CatStore) (marks : T) → IsBack (since mark old) old mid →
    all_heard hear_all mark.stamps mid.held (heard hear (told_settled (length mid.held.stamps.rows) mark.stamps mid.held) marks) ≡ all_heard hear_all mark.stamps old.held (heard hear (told_back mark old) marks)
told_of hear hear_all mark old mid marks back =
    ap (λ (now : Now). all_heard hear_all mark.stamps now (heard hear (told_settled (length now.stamps.rows) mark.stamps now) marks)) (parts mid.held mid.held.catalog old.held.stamps old.held.last_stamp refl back.stamps back.last_stamp)
    ∙ ap (λ (slots : List Slot). all_heard hear_all mark.stamps old.held (heard hear (told_restamped (length old.held.stamps.rows) slots mark.stamps old.held.last_stamp old.held.stamps.rows) marks)) back.slots
