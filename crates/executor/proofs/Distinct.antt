-- The rows that are given once are those that no earlier row is like.
use Rattle.std.proofs.Common.{◌≡◌, ℕ, Bool, true, false, true≢false, is_some, Result, Ok, Err, List, [], ◌∷◌, length, refl, sym, ap, ◌∙◌, arith}
use Rattle.std.specs.Prelude.{◌||◌, if◌then◌else◌}
use Rattle.std.specs.Cmp.{IsTotalOrder}
use Rattle.q_base.specs.declared.code.Code.{Code}
use Rattle.q_value.specs.declared.value.Value.{Value}
use Rattle.query_tree.specs.declared.target.Target.{Target}
use Rattle.row_index.specs.declared.entries.IndexPlace.{IndexPlace}
use Rattle.row_index.specs.Order.{entry_of, keys_cmp}
use Rattle.executor.specs.Alike.{keys_alike, is_among}
use Rattle.executor.specs.Lists.{Rows, before, made, values_from}
use Rattle.executor.specs.Nodes.{distinct}
use Rattle.executor.specs.Uniques.{entry_at, numbered, with_seen, unseen_rows}
use Rattle.executor.proofs.Keys.{next_alike, tied_next, found_with, values_long}

-- the entries are of the keys that were seen, as far as keys of a length tell
abbrev Knows : ℕ → List IndexPlace → List (List Value) → Type 0
Knows n entries seen = (key : List Value) → length key ≡ n → is_some (entry_at key entries) ≡ is_among seen key

knows_more : IsTotalOrder keys_cmp → (n : ℕ) (entries : List IndexPlace) (seen : List (List Value)) (key : List Value) → length key ≡ n → Knows n entries seen → Knows n (with_seen key entries) (key ∷ seen)
knows_more o n entries seen key long knows other same =
    let entry = entry_of key (numbered 0) in
    found_with _ entry entries (λ x tied. tied_next o other x entry (long ∙ sym same) tied)
    ∙ ap (λ b. b || is_some (entry_at other entries)) (next_alike other entry (long ∙ sym same))
    ∙ ap (λ b. keys_alike key other || b) (knows other same)

pub same_distinct : IsTotalOrder keys_cmp → (targets : List Target) (params : List Value) (entries : List IndexPlace) (seen : List (List Value)) (rows : Rows) → Knows (length targets) entries seen → unseen_rows targets params entries rows ≡ distinct targets params seen rows
same_distinct o targets params entries seen [] knows = refl
same_distinct o targets params entries seen (Err code ∷ more) knows = refl
same_distinct o targets params entries seen (Ok found ∷ more) knows = go (values_from [] targets found.row params) refl (λ entries2 seen2. same_distinct o targets params entries2 seen2 more)
  where
    chosen : (key : List Value) (b c : Bool) → b ≡ c → unseen_rows targets params entries more ≡ distinct targets params seen more → unseen_rows targets params (with_seen key entries) more ≡ distinct targets params (key ∷ seen) more → (if b then unseen_rows targets params entries more else Ok (made found.row) ∷ unseen_rows targets params (with_seen key entries) more) ≡ (if c then distinct targets params seen more else Ok (made found.row) ∷ distinct targets params (key ∷ seen) more)
    chosen key true true e same new = same
    chosen key true false e same new = absurd (true≢false e)
    chosen key false true e same new = absurd (true≢false (sym e))
    chosen key false false e same new = ap (λ rows. Ok (made found.row) ∷ rows) new

    go : (r : Result (List Value) Code) → values_from [] targets found.row params ≡ r → ((entries2 : List IndexPlace) (seen2 : List (List Value)) → Knows (length targets) entries2 seen2 → unseen_rows targets params entries2 more ≡ distinct targets params seen2 more) → before r (λ key. if is_some (entry_at key entries) then unseen_rows targets params entries more else Ok (made found.row) ∷ unseen_rows targets params (with_seen key entries) more) ≡ before r (λ key. if is_among seen key then distinct targets params seen more else Ok (made found.row) ∷ distinct targets params (key ∷ seen) more)
    go (Err code) e next = refl
    go (Ok key) e next =
        let same = values_long [] targets found.row params key e in
        let long : length key ≡ length targets = omega arith in
        chosen key _ _ (knows key long) (next entries seen knows) (next (with_seen key entries) (key ∷ seen) (knows_more o (length targets) entries seen key long knows))

-- from no key on
pub distinct_rows : IsTotalOrder keys_cmp → (targets : List Target) (params : List Value) (rows : Rows) → unseen_rows targets params [] rows ≡ distinct targets params [] rows
distinct_rows o targets params rows = same_distinct o targets params [] [] rows (λ key long. refl)
