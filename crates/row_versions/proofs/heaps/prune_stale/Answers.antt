use Rattle.std.proofs.Common.{◌≡◌, ◌<◌, ◌-◌, ◌+◌, ◌∷◌, List, true, length, take, sym, ap, ◌∙◌, subst, arith}
use Rattle.std.specs.Prelude.{Contains, ◌⊎◌}
use Rattle.std.specs.List.{swap_remove}
use Rattle.row_versions.specs.declared.tables.Place.{Place}
use Rattle.row_versions.specs.Versions.{kept, is_settled}
use Rattle.row_versions.specs.Stored.{Stored, versions_in, pruned}
use Rattle.row_versions.specs.Sound.{IsHistory}
use Rattle.row_versions.proofs.Pruned.{pruned-in_place, rest_step, listed_kept, listed_less, dated_step, take-swap_remove, Contains-swap_remove, removed_at, all_pruned}
use Rattle.row_versions.proofs.heaps.prune_stale.Goals as goal

pub loop-left-preserved : goal.loop-left-preserved
loop-left-preserved c =
    let snaps = c.args.newest ∷ c.args.pins.now in
    let tables = c.loop-left.tables in
    let stale = c.loop-left.stale.items in
    let left = c.loop-left.left - 1 in
    let place = c.index-place.result.now in
    let more : c.loop-left.left ≡ left + 1 = omega arith in
    let lt : left < length stale = omega (arith, c.loop-left.invariant.within) in
    let is = c.prune.ensures.state in
    let rest = rest_step snaps tables stale left place lt c.index-place.ensures (subst (λ n. (q : Place) → (kept snaps (versions_in q tables) ≡ versions_in q tables) ⊎ Contains (take n stale) q) more c.loop-left.invariant.rest) in
    record {
      within = omega (arith, c.loop-left.invariant.within);
      same = ap (pruned snaps) is ∙ pruned-in_place snaps tables place ∙ c.loop-left.invariant.same;
      dated = subst (λ (ts : List Stored). (q : Place) → IsHistory c.args.newest (versions_in q ts)) (sym is) (dated_step c.args.newest snaps tables place c.loop-left.invariant.dated);
      rest = subst (λ (ts : List Stored). (q : Place) → (kept snaps (versions_in q ts) ≡ versions_in q ts) ⊎ Contains (take left stale) q) (sym is) rest;
      listed = subst (λ (ts : List Stored). (q : Place) → (is_settled (versions_in q ts) ≡ true) ⊎ Contains stale q) (sym is) (listed_kept snaps tables stale place (left, lt, sym c.index-place.ensures) c.loop-left.invariant.listed);
    }

pub loop-left-preserved-then-prune : goal.loop-left-preserved-then-prune
loop-left-preserved-then-prune c =
    let snaps = c.args.newest ∷ c.args.pins.now in
    let tables = c.loop-left.tables in
    let stale = c.loop-left.stale.items in
    let less = c.swap_remove.new.self.items in
    let left = c.loop-left.left - 1 in
    let place = c.index-place.result.now in
    let more : c.loop-left.left ≡ left + 1 = omega arith in
    let lt : left < length stale = omega (arith, c.loop-left.invariant.within) in
    let is = c.prune.ensures.state in
    let rest = rest_step snaps tables stale left place lt c.index-place.ensures (subst (λ n. (q : Place) → (kept snaps (versions_in q tables) ≡ versions_in q tables) ⊎ Contains (take n stale) q) more c.loop-left.invariant.rest) in
    let less_is : less ≡ swap_remove stale left place = removed_at stale less left place c.swap_remove.result lt c.index-place.ensures c.swap_remove.ensures.value c.swap_remove.ensures.items in
    let settled : is_settled (kept snaps (versions_in place tables)) ≡ true = sym c.prune.ensures.settled ∙ c.if-prune.true in
    record {
      within = omega (arith, c.loop-left.invariant.within, c.swap_remove.ensures.len);
      same = ap (pruned snaps) is ∙ pruned-in_place snaps tables place ∙ c.loop-left.invariant.same;
      dated = subst (λ (ts : List Stored). (q : Place) → IsHistory c.args.newest (versions_in q ts)) (sym is) (dated_step c.args.newest snaps tables place c.loop-left.invariant.dated);
      rest =
          subst (λ (l : List Place). (q : Place) → (kept snaps (versions_in q c.prune.new.self) ≡ versions_in q c.prune.new.self) ⊎ Contains l q) (sym (ap (take left) less_is ∙ take-swap_remove stale left place lt))
          (subst (λ (ts : List Stored). (q : Place) → (kept snaps (versions_in q ts) ≡ versions_in q ts) ⊎ Contains (take left stale) q) (sym is) rest);
      listed =
          subst (λ (ts : List Stored). (q : Place) → (is_settled (versions_in q ts) ≡ true) ⊎ Contains less q) (sym is)
          (listed_less snaps tables stale less place settled (λ q h. subst (λ (l : List Place). Contains l q ⊎ (place ≡ q)) (sym less_is) (Contains-swap_remove stale left place q lt c.index-place.ensures h)) c.loop-left.invariant.listed);
    }

pub returns-clause-pruned : goal.returns-clause-pruned
returns-clause-pruned c =
    let snaps = c.args.newest ∷ c.args.pins.now in
    let none : c.loop-left.left ≡ 0 = omega arith in
    sym (all_pruned snaps c.loop-left.tables c.loop-left.stale.items c.loop-left.left none c.loop-left.invariant.rest) ∙ c.loop-left.invariant.same
