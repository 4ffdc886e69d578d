-- The rows whose targets no row before them has.
use Rattle.std.specs.Prelude.{◌≡◌, ℕ, Bool, true, false, if◌then◌else◌, Option, None, is_some, Result, Ok, Err, List, [], ◌∷◌, find}
use Rattle.q_base.specs.declared.ids.SlotId.{SlotId}
use Rattle.q_value.specs.declared.value.Value.{Value}
use Rattle.query_tree.specs.declared.target.Target.{Target}
use Rattle.row_index.specs.declared.entries.IndexPlace.{IndexPlace}
use Rattle.row_index.specs.declared.entries.KeyRange.{KeyRange}
use Rattle.row_index.specs.Entries.{with_entry}
use Rattle.row_index.specs.Order.{entry_of}
use Rattle.row_index.specs.Ranges.{is_next}
use Rattle.executor.specs.Lists.{Rows, before, made, values_from}

abbrev pub key_range : List Value → KeyRange
key_range key = record { equal = key; low = None; high = None }

-- the first entry of a key
abbrev pub entry_at : List Value → List IndexPlace → Option IndexPlace
entry_at key entries = find (is_next (key_range key) None) entries

abbrev pub numbered : ℕ → SlotId
numbered n = record { 0 = n }

-- with a key among those seen
abbrev pub with_seen : List Value → List IndexPlace → List IndexPlace
with_seen key seen = with_entry (entry_of key (numbered 0)) seen

-- a call tells whether a key is new, and adds it
abbrev pub Notes : List Value → List IndexPlace → List IndexPlace → {E : Type 0} → Result Bool E → Type 0
Notes key old new (Ok true) = (is_some (entry_at key old) ≡ false) × (new ≡ with_seen key old)
Notes key old new (Ok false) = (is_some (entry_at key old) ≡ true) × (new ≡ old)
Notes key old new (Err stop) = Unit {0}

-- the rows whose targets are new among those seen
abbrev pub unseen_rows : List Target → List Value → List IndexPlace → Rows → Rows
unseen_rows targets params seen [] = []
unseen_rows targets params seen (Ok found ∷ more) = before (values_from [] targets found.row params) (λ key. if is_some (entry_at key seen) then unseen_rows targets params seen more else Ok (made found.row) ∷ unseen_rows targets params (with_seen key seen) more)
unseen_rows targets params seen (Err code ∷ more) = Err code ∷ []
