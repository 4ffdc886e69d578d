use Rattle.std.specs.Prelude.{ℕ, ◌+◌, ◌*◌, Bool, true, false, nat_lt, Option, Some, None, if◌then◌else◌}
use Rattle.q_base.specs.declared.settings.Mode.{Mode}
use Rattle.q_base.specs.declared.settings.Mode.TheVariants as mode
use Rattle.plan_choice.specs.declared.Choice.{Choice}
use Rattle.plan_choice.specs.declared.Choice.TheVariants as plan
use Rattle.plan_choice.specs.declared.Tally.{Tally}

-- the generic cost isn't known yet, or is below the average cost of the custom plans
abbrev pub is_generic_cheaper : Tally → Bool
is_generic_cheaper tally = is_below tally.generic_cost where
  is_below : Option ℕ → Bool
  is_below None = true
  is_below (Some cost) = nat_lt (cost * tally.custom_count) tally.custom_sum

-- the kind of plan that a use takes
abbrev pub choice : Mode → Bool → Tally → Choice
choice mode false tally = plan.Generic
choice mode.Generic true tally = plan.Generic
choice mode.Custom true tally = plan.Custom
choice mode.Auto true tally =
    if nat_lt tally.custom_count 5 then plan.Custom
    else if is_generic_cheaper tally then plan.Generic
    else plan.Custom

-- no use yet, and no generic plan
abbrev pub no_uses : Tally
no_uses = record { custom_count = 0; custom_sum = 0; generic_count = 0; generic_cost = None }

-- a use of a custom plan: its cost and a charge for planning, which grows with the plan's width
abbrev pub with_custom : Tally → ℕ → ℕ → Tally
with_custom tally cost width = record tally {
  custom_count = tally.custom_count + 1;
  custom_sum = tally.custom_sum + (cost + 1000 * (width + 1));
}

-- a use of the generic plan
abbrev pub with_generic : Tally → Tally
with_generic tally = record tally { generic_count = tally.generic_count + 1 }
