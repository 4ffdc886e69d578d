use Rattle.std.proofs.Common.{◌≡◌, drop}
use Rattle.view_rewrite.specs.Replaced.{names_view}
use Rattle.view_rewrite.proofs.rewriting.names_view.Given as goal

abbrev pub invariant-loop-item : goal.invariant-loop-item
invariant-loop-item l = names_view (drop l.item-index l.item-items) ≡ names_view l.item-items
