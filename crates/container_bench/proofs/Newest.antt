-- A row that the snapshot just taken shows is shown by the newest snapshot.
use Rattle.std.proofs.Common.{◌≡◌, ℕ, ◌+◌, Bor, Bool, true, Option, None, Some, List, refl, sym, ap, ◌∙◌}
use Rattle.std.specs.Prelude.{is_some}
use Rattle.std.specs.Option.{option_copied}
use Rattle.q_base.specs.declared.ids.ObjId.{ObjId}
use Rattle.q_value.specs.declared.value.Value.{Value}
use Rattle.row_versions.specs.State.{State, shown, rows, row_of}

is_some-copied : (found : Option (Bor (List Value))) → is_some (option_copied found) ≡ is_some found
is_some-copied None = refl
is_some-copied (Some row) = refl

pub shown_newest : ((state : State) (table : ObjId) (slot snap : ℕ) → shown state table slot snap ≡ row_of slot (rows state table snap)) → (old new : State) (table : ObjId) (slot snap : ℕ) (found : Option (Bor (List Value)))
    → new ≡ record old { newest = old.newest + 1 } → rows new table new.newest ≡ rows old table old.newest → snap ≡ old.newest → option_copied found ≡ shown new table slot snap → is_some found ≡ true → is_some (shown new table slot new.newest) ≡ true
shown_newest law old new table slot snap found state newest snap_is read there =
    ap is_some
    (law new table slot new.newest
    ∙ ap (row_of slot) newest
    ∙ sym (law old table slot old.newest)
    ∙ sym (ap (λ (s : State). shown s table slot old.newest) state)
    ∙ ap (shown new table slot) (sym snap_is)
    ∙ sym read)
    ∙ is_some-copied found
    ∙ there
