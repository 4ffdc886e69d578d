use Rattle.std.proofs.Common.{◌≡◌, drop}
use Rattle.std.specs.List.{list_any}
use Rattle.row_versions.specs.Versions.{is_shown}
use Rattle.row_versions.proofs.slot.Version.is_shown_by_any.Given as goal

-- the pins so far do not show the version
abbrev pub invariant-loop-pin : goal.invariant-loop-pin
invariant-loop-pin l = list_any (is_shown l.self) (drop l.pin-index l.pins) ≡ list_any (is_shown l.self) l.pins
