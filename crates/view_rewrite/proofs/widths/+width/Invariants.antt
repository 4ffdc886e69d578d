use Rattle.std.proofs.Common.{◌+◌, ◌*◌}
use Rattle.view_rewrite.proofs.widths.+width.Given as goal

-- how deep views may stand below
abbrev pub decreases-width_with_item : goal.decreases-width_with_item
decreases-width_with_item l = 2 * l.depth

abbrev pub decreases-width_with : goal.decreases-width_with
decreases-width_with l = 2 * l.depth + 1
