use Rattle.std.specs.Prelude.{ℕ, ◌-◌, ◌≡◌, List, length, reverse, drop}
use Rattle.q_base.specs.declared.ids.ObjId.{ObjId}
use Rattle.cat_core.specs.declared.slots.Slot.{Slot}
use Rattle.cat_undo.specs.declared.now.Now.{Now}
use Rattle.cat_undo.specs.declared.store.CatStore.{CatStore}
use Rattle.cat_undo.specs.declared.store.CatMark.{CatMark}
use Rattle.cat_core.specs.Steps.{CatalogState}
use Rattle.cat_undo.specs.Restored.{undone, settled, all_settled, told_restamped}
pub use Rattle.cat_undo.specs.Restored.{heard, all_heard}

-- so many steps, the last first, were taken back, and no stamp was handed out
pub record IsBack (count : ℕ) (old new : CatStore) : Type 0 where
  pub slots : new.held.catalog.slots ≡ undone count (reverse old.log.items) old.held.catalog.slots
  pub next_id : new.held.catalog.next_id ≡ old.held.catalog.next_id
  pub stamps : new.held.stamps ≡ old.held.stamps
  pub last_stamp : new.held.last_stamp ≡ old.held.last_stamp
  pub log : reverse new.log.items ≡ drop count (reverse old.log.items)

-- how many steps were made since the mark
abbrev pub since : CatMark → CatStore → ℕ
since mark store = length store.log.items - mark.changes

-- the objects that the mark names
abbrev pub copy_at : CatMark → CatStore → List Slot
copy_at mark store = undone (since mark store) (reverse store.log.items) store.held.catalog.slots

-- those that a rollback to the mark tells of
abbrev pub told_back : CatMark → CatStore → List ObjId
told_back mark store = told_restamped (length store.held.stamps.rows) (copy_at mark store) mark.stamps store.held.last_stamp store.held.stamps.rows

-- with another catalog, and with the stamps of before
abbrev pub with_catalog : CatalogState → Now → Now
with_catalog catalog now = record { catalog = catalog; stamps = now.stamps; last_stamp = now.last_stamp }

-- the objects are those of the mark, no id is free again, each object has its stamp of before where that was handed out
-- before the mark and it was there, and else the next, and what takes the steps since back is gone
pub record RolledBack (mark : CatMark) (old new : CatStore) : Type 0 where
  pub slots : new.held.catalog.slots ≡ copy_at mark old
  pub next_id : new.held.catalog.next_id ≡ old.held.catalog.next_id
  pub held : new.held ≡ all_settled mark.stamps (settled (length old.held.stamps.rows) mark.stamps (with_catalog new.held.catalog old.held))
  pub log : reverse new.log.items ≡ drop (since mark old) (reverse old.log.items)
