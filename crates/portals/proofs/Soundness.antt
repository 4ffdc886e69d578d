-- What is kept and what was pulled fit together after each pull.
use Rattle.std.proofs.Common.{◌≡◌, ℕ, ◌+◌, ◌-◌, ◌≤◌, ◌^◌, min, max, Bool, true, false, List, [], ◌∷◌, ◌++◌, length, Option, Some, None, refl, sym, ap, ◌∙◌, true≢false, arith}
use Rattle.q_value.specs.declared.value.Outcome.TheVariants.{Row}
use Rattle.q_value.specs.declared.value.Value.{Value}
use Rattle.q_base.specs.declared.ids.ObjId.{ObjId}
use Rattle.holdable_store.specs.Buffer.{Buffer}
use Rattle.holdable_store.specs.Buffers.{next_position, without_before}
use Rattle.portals.specs.Cursors.{IsSound, next_place}
use Rattle.portals.proofs.Rows.{AllRows-push, AllRows-drop, length-push}

module _ {F P : Type 0} (pin : Option P) (position reach : ℕ) (scroll hold : Bool) (level : Option ℕ) (uses : List ObjId) where
  -- a row is pulled and kept
  pub sound-row : (before : Option F) (feed first-feed : F) (kept later : Buffer) (row : List Value) (fails : Bool)
      → IsSound {F = F} {P = P} (record { feed = before; pin = pin; kept = kept; position = position; reach = reach; scroll = scroll; hold = hold; failed = fails; level = level; uses = uses })
      → before ≡ Some first-feed → fails ≡ false → next_position kept ≤ 2 ^ 62 → later ≡ record kept { kept = kept.kept ++ Row row ∷ [] }
      → IsSound {F = F} {P = P} (record { feed = Some feed; pin = pin; kept = later; position = position; reach = reach + 1; scroll = scroll; hold = hold; failed = fails; level = level; uses = uses })
  sound-row before feed first-feed kept later row fails sound is alive last same =
      let next : kept.first + length kept.kept ≡ reach + 1 = sound.next alive ∙ ap (λ f. next_place f reach) is in
      let more : length later.kept ≡ length kept.kept + 1 = ap (λ b. length b.kept) same ∙ length-push kept.kept row in
      let firsts : later.first ≡ kept.first = ap (λ b. b.first) same in
      let behind : position ≤ reach = sound.behind in
      record {
        behind = omega arith;
        within = omega arith;
        rows = rw same (AllRows-push kept.kept row sound.rows);
        early = rw firsts sound.early;
        start = λ scrolls. firsts ∙ sound.start scrolls;
        next = λ o. omega arith;
        done = λ e. absurd (true≢false (sym e ∙ alive));
      }

  -- the end is pulled
  pub sound-end : (before : Option F) (first-feed : F) (kept : Buffer) (fails : Bool)
      → IsSound {F = F} {P = P} (record { feed = before; pin = pin; kept = kept; position = position; reach = reach; scroll = scroll; hold = hold; failed = fails; level = level; uses = uses })
      → before ≡ Some first-feed → fails ≡ false
      → IsSound {F = F} {P = P} (record { feed = None; pin = pin; kept = kept; position = position; reach = reach + 1; scroll = scroll; hold = hold; failed = fails; level = level; uses = uses })
  sound-end before first-feed kept fails sound is alive =
      let next : next_place before reach ≡ reach + 1 = ap (λ f. next_place f reach) is in
      let within : next_place before reach ≤ 2 ^ 62 + 1 = sound.within in
      let behind : position ≤ reach = sound.behind in
      record {
        behind = omega arith;
        within = omega arith;
        rows = sound.rows;
        early = sound.early;
        start = sound.start;
        next = λ o. sound.next alive ∙ next;
        done = λ e. refl;
      }

  -- one more is pulled of a failed cursor
  pub sound-fault : (feed : Option F) (kept : Buffer) (fails : Bool)
      → IsSound {F = F} {P = P} (record { feed = feed; pin = pin; kept = kept; position = position; reach = reach; scroll = scroll; hold = hold; failed = fails; level = level; uses = uses })
      → fails ≡ true → reach ≤ 2 ^ 62
      → IsSound {F = F} {P = P} (record { feed = feed; pin = pin; kept = kept; position = position; reach = reach + 1; scroll = scroll; hold = hold; failed = fails; level = level; uses = uses })
  sound-fault feed kept fails sound fail last =
      let none : feed ≡ None = sound.done fail in
      let next : next_place feed (reach + 1) ≡ reach + 1 = ap (λ f. next_place f (reach + 1)) none in
      let behind : position ≤ reach = sound.behind in
      record {
        behind = omega arith;
        within = omega arith;
        rows = sound.rows;
        early = sound.early;
        start = sound.start;
        next = λ o. absurd (true≢false (sym fail ∙ o));
        done = λ e. none;
      }

  -- rows that can't be reached again are dropped
  pub sound-forget : (feed : Option F) (kept later : Buffer) (fails : Bool)
      → IsSound {F = F} {P = P} (record { feed = feed; pin = pin; kept = kept; position = position; reach = reach; scroll = scroll; hold = hold; failed = fails; level = level; uses = uses })
      → scroll ≡ false → later ≡ without_before position kept → next_position later ≡ next_position kept
      → IsSound {F = F} {P = P} (record { feed = feed; pin = pin; kept = later; position = position; reach = reach; scroll = scroll; hold = hold; failed = fails; level = level; uses = uses })
  sound-forget feed kept later fails sound ahead same next =
      let firsts : later.first ≡ kept.first + min (position - kept.first) (length kept.kept) = ap (λ b. b.first) same in
      let early : kept.first ≤ max 1 position = sound.early in
      record {
        behind = sound.behind;
        within = sound.within;
        rows = rw (ap (λ b. b.kept) same) (AllRows-drop (min (position - kept.first) (length kept.kept)) kept.kept sound.rows);
        early = omega arith;
        start = λ scrolls. absurd (true≢false (sym scrolls ∙ ahead));
        next = λ alive. next ∙ sound.next alive;
        done = sound.done;
      }

-- while not all was pulled, one more can be
pub room : {F : Type 0} (feed : Option F) (first-feed : F) (reach : ℕ) → feed ≡ Some first-feed → next_place feed reach ≤ 2 ^ 62 + 1 → reach ≤ 2 ^ 62
room feed first-feed reach is within = let next : next_place feed reach ≡ reach + 1 = ap (λ f. next_place f reach) is in omega arith
