-- A cursor while outcomes are pulled.
use Rattle.std.proofs.Common.{◌≡◌, ℕ, suc, ◌+◌, ◌<◌, ◌≤◌, min, max, false, List, [], ◌∷◌, ◌++◌, length, Option, Some, None, IsSome, true≢false, refl, sym, ap, ◌∙◌, arith}
use Rattle.std.proofs.lemmas.Option.{none-some}
use Rattle.q_base.specs.declared.code.Code.{Code}
use Rattle.q_value.specs.declared.value.Outcome.{Outcome}
use Rattle.q_value.specs.declared.value.Outcome.TheVariants.{Row}
use Rattle.holdable_store.specs.Buffer.{Buffer}
use Rattle.holdable_store.specs.Buffers.{next_position}
use Rattle.portals.specs.declared.cursor.Pulled.TheVariants as pulled
use Rattle.portals.specs.Cursors.{Standing, IsSound, AllRows, left, list_of, next_place, failed}
use Rattle.portals.specs.Walks.{rows_of, fault_of, end_of, Pulls, PullsTo}
use Rattle.portals.proofs.Rows.{AllRows-push, length-push, append-push, rows-after, fault-after}

-- so far rows alone were pulled, up to a place
pub record Pulling {F P : Type 0} (rest : F → List Outcome) (goal : ℕ) (old new : Standing F P) (turn : ℕ) : Type 0 where
  pub list : list_of rest new ≡ list_of rest old
  pub first : new.kept.first ≡ old.kept.first
  pub same : new ≡ record old { feed = new.feed; kept = new.kept; reach = new.reach }
  pub reach : new.reach ≡ turn
  pub later : old.reach ≤ turn
  pub within : turn ≤ max old.reach goal
  pub rows : AllRows new.kept.kept
  pub next : next_position new.kept ≡ next_place new.feed new.reach

-- the next place, by what is left
next-some : {F : Type 0} (feed : Option F) (reach : ℕ) → IsSome feed → next_place feed reach ≡ reach + 1
next-some (Some feed) reach some = refl
next-some None reach some = absurd (true≢false (sym some))

next-left : {F : Type 0} (rest : F → List Outcome) (feed : Option F) (reach : ℕ) (first : Outcome) (more : List Outcome) → left rest feed ≡ first ∷ more → next_place feed reach ≡ reach + 1
next-left rest (Some feed) reach first more e = refl
next-left rest None reach first more e = let none : 0 ≡ suc (length more) = ap (λ l. length l) e in absurd (omega arith)

next-fault : {F : Type 0} (rest : F → List Outcome) (feed : Option F) (reach : ℕ) (code : Code) → fault_of (left rest feed) ≡ Some code → next_place feed reach ≡ reach + 1
next-fault rest (Some feed) reach code e = refl
next-fault rest None reach code e = absurd (none-some code e)

pub next-near : {F : Type 0} (feed : Option F) (reach : ℕ) → (reach ≤ next_place feed reach) × (next_place feed reach ≤ reach + 1)
next-near (Some feed) reach = (omega arith, omega arith)
next-near None reach = (omega arith, omega arith)

no-fault : {F : Type 0} (rest : F → List Outcome) (feed : Option F) (reach : ℕ) → next_place feed reach ≤ reach → fault_of (left rest feed) ≡ None
no-fault rest None reach le = refl
no-fault rest (Some feed) reach le = absurd (omega arith)

-- what pulls leave as it was
others : {F P : Type 0} (new mid old : Standing F P) (feed : Option F) (kept : Buffer) (reach : ℕ) → new ≡ record mid { feed = feed; kept = kept; reach = reach }
    → mid ≡ record old { feed = mid.feed; kept = mid.kept; reach = mid.reach } → new ≡ record old { feed = new.feed; kept = new.kept; reach = new.reach }
others new mid old feed kept reach a b = λ i. record new {
  pin = (ap (λ s. s.pin) a ∙ ap (λ s. s.pin) b) i;
  position = (ap (λ s. s.position) a ∙ ap (λ s. s.position) b) i;
  scroll = (ap (λ s. s.scroll) a ∙ ap (λ s. s.scroll) b) i;
  hold = (ap (λ s. s.hold) a ∙ ap (λ s. s.hold) b) i;
  failed = (ap (λ s. s.failed) a ∙ ap (λ s. s.failed) b) i;
  level = (ap (λ s. s.level) a ∙ ap (λ s. s.level) b) i;
  uses = (ap (λ s. s.uses) a ∙ ap (λ s. s.uses) b) i;
}

others-failed : {F P : Type 0} (mid old : Standing F P) (reach end : ℕ) → mid ≡ record old { feed = mid.feed; kept = mid.kept; reach = mid.reach } → reach ≡ end
    → failed (record mid { reach = reach }) ≡ failed (record old { reach = end })
others-failed mid old reach end b e = λ i. record (failed mid) {
  pin = ap (λ s. s.pin) b i;
  position = ap (λ s. s.position) b i;
  reach = e i;
  scroll = ap (λ s. s.scroll) b i;
  hold = ap (λ s. s.hold) b i;
  level = ap (λ s. s.level) b i;
  uses = ap (λ s. s.uses) b i;
}

module _ {F P : Type 0} (rest : F → List Outcome) (goal : ℕ) (old : Standing F P) where
  pub pulling-begin : IsSound old → old.failed ≡ false → Pulling rest goal old old old.reach
  pulling-begin sound alive = record {
    list = refl;
    first = refl;
    same = refl;
    reach = refl;
    later = omega arith;
    within = omega arith;
    rows = sound.rows;
    next = sound.next alive;
  }

  -- the place behind the last row, counted from what is kept
  pub end-from : (mid : Standing F P) (turn : ℕ) → Pulling rest goal old mid turn → end_of rest old ≡ next_place mid.feed mid.reach + length (rows_of (left rest mid.feed))
  end-from mid turn pulling =
      let firsts : mid.kept.first ≡ old.kept.first = pulling.first in
      let lists : length (rows_of (list_of rest mid)) ≡ length (rows_of (list_of rest old)) = ap (λ l. length (rows_of l)) pulling.list in
      let parts : length (rows_of (list_of rest mid)) ≡ length mid.kept.kept + length (rows_of (left rest mid.feed)) = rows-after mid.kept.kept (left rest mid.feed) pulling.rows in
      let next : mid.kept.first + length mid.kept.kept ≡ next_place mid.feed mid.reach = pulling.next in
      omega arith

  module _ (mid new : Standing F P) (turn : ℕ) (pulling : Pulling rest goal old mid turn) where
    pub pulling-row : turn < goal → Pulls rest mid pulled.Row new → Pulling rest goal old new (turn + 1)
    pulling-row lt pulls =
        let kept : new.kept.kept ≡ mid.kept.kept ++ Row pulls.0 ∷ [] = ap (λ s. s.kept.kept) pulls.3 in
        let firsts : new.kept.first ≡ mid.kept.first = ap (λ s. s.kept.first) pulls.3 in
        let more : new.reach ≡ mid.reach + 1 = ap (λ s. s.reach) pulls.3 in
        let reach : mid.reach ≡ turn = pulling.reach in
        let later : old.reach ≤ turn = pulling.later in
        let longer : length new.kept.kept ≡ length mid.kept.kept + 1 = ap (λ l. length l) kept ∙ length-push mid.kept.kept pulls.0 in
        let was : mid.kept.first + length mid.kept.kept ≡ mid.reach + 1 = pulling.next ∙ next-left rest mid.feed mid.reach _ _ pulls.1 in
        let is : next_place new.feed new.reach ≡ new.reach + 1 = next-some new.feed new.reach pulls.2 in
        record {
          list = ap (λ k. k ++ left rest new.feed) kept ∙ (append-push mid.kept.kept pulls.0 (left rest new.feed) ∙ (ap (λ l. mid.kept.kept ++ l) (sym pulls.1) ∙ pulling.list));
          first = firsts ∙ pulling.first;
          same = others new mid old _ _ _ pulls.3 pulling.same;
          reach = omega arith;
          later = omega arith;
          within = omega arith;
          rows = rw kept (AllRows-push mid.kept.kept pulls.0 pulling.rows);
          next = omega arith;
        }

    pub pulling-end : turn < goal → Pulls rest mid pulled.End new → PullsTo rest goal old None new
    pulling-end lt pulls =
        let none : length (rows_of (left rest mid.feed)) ≡ 0 = ap (λ l. length (rows_of l)) pulls.0 in
        let end : end_of rest old ≡ next_place mid.feed mid.reach + length (rows_of (left rest mid.feed)) = end-from mid turn pulling in
        let is : new.reach ≡ next_place mid.feed mid.reach = ap (λ s. s.reach) pulls.1 in
        let near = next-near mid.feed mid.reach in
        let reach : mid.reach ≡ turn = pulling.reach in
        let later : old.reach ≤ turn = pulling.later in
        let least : mid.reach ≤ next_place mid.feed mid.reach = near.0 in
        let most : next_place mid.feed mid.reach ≤ mid.reach + 1 = near.1 in
        let reached : new.reach ≡ max old.reach (min goal (end_of rest old)) = omega arith in (
          ap (λ s. list_of rest s) pulls.1 ∙ (ap (λ l. mid.kept.kept ++ l) (sym pulls.0) ∙ pulling.list),
          ap (λ s. s.kept.first) pulls.1 ∙ pulling.first,
          others new mid old _ _ _ pulls.1 pulling.same ∙ (λ i. record old { feed = new.feed; kept = new.kept; reach = reached i }),
          λ met. ap fault_of (sym pulling.list) ∙ (fault-after mid.kept.kept (left rest mid.feed) pulling.rows ∙ ap fault_of pulls.0),
        )

    pub pulling-fault : (code : Code) → turn < goal → Pulls rest mid (pulled.Fault code) new → PullsTo rest goal old (Some code) new
    pulling-fault code lt pulls =
        let none : length (rows_of (left rest mid.feed)) ≡ 0 = ap (λ l. length l) pulls.1 in
        let end : end_of rest old ≡ next_place mid.feed mid.reach + length (rows_of (left rest mid.feed)) = end-from mid turn pulling in
        let next : next_place mid.feed mid.reach ≡ mid.reach + 1 = next-fault rest mid.feed mid.reach code pulls.0 in
        let reach : mid.reach ≡ turn = pulling.reach in
        let reached : mid.reach + 1 ≡ end_of rest old = omega arith in (
          ap fault_of (sym pulling.list) ∙ (fault-after mid.kept.kept (left rest mid.feed) pulling.rows ∙ pulls.0),
          omega arith,
          pulls.2 ∙ others-failed mid old _ _ pulling.same reached,
        )

  pub pulling-all : (new : Standing F P) (turn : ℕ) → Pulling rest goal old new turn → goal ≤ turn → PullsTo rest goal old None new
  pulling-all new turn pulling le =
      let end : end_of rest old ≡ next_place new.feed new.reach + length (rows_of (left rest new.feed)) = end-from new turn pulling in
      let near = next-near new.feed new.reach in
      let least : new.reach ≤ next_place new.feed new.reach = near.0 in
      let reach : new.reach ≡ turn = pulling.reach in
      let later : old.reach ≤ turn = pulling.later in
      let within : turn ≤ max old.reach goal = pulling.within in
      let reached : new.reach ≡ max old.reach (min goal (end_of rest old)) = omega arith in (
        pulling.list,
        pulling.first,
        pulling.same ∙ (λ i. record old { feed = new.feed; kept = new.kept; reach = reached i }),
        λ met. ap fault_of (sym pulling.list) ∙ (fault-after new.kept.kept (left rest new.feed) pulling.rows ∙ no-fault rest new.feed new.reach (omega arith)),
      )
