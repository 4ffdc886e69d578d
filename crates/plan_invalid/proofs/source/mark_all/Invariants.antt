use Rattle.std.proofs.Common.{◌≡◌, ℕ, length, if◌then◌else◌}
use Rattle.std.specs.Prelude.{nat_lt}
use Rattle.std.specs.Option.{option_map}
use Rattle.plan_invalid.specs.Sources.{at_key, marked}
use Rattle.plan_invalid.proofs.source.mark_all.Given as goal

-- the sources under the keys so far are marked, and the others are as they were
abbrev pub invariant-loop-key : goal.invariant-loop-key
invariant-loop-key l = record {
  long : length l.sources.slots ≡ length l.fn.sources.slots;
  each : (key : ℕ) → at_key l.sources.slots key ≡ (if nat_lt key l.key then option_map marked (at_key l.fn.sources.slots key) else at_key l.fn.sources.slots key);
}
