-- The values of the settings other than search_path.
use Rattle.std.specs.Prelude.{Bool, true}
use Rattle.q_base.specs.declared.settings.Switches.{Switches}
use Rattle.savepoints.specs.declared.given.Choice.{Choice}
use Rattle.savepoints.specs.declared.given.Choice.TheVariants as choice
use Rattle.savepoints.specs.declared.given.Switch.{Switch}
use Rattle.savepoints.specs.declared.given.Switch.TheVariants as switch
use Rattle.savepoints.specs.declared.held.Choices.{Choices}

abbrev pub all_on : Switches
all_on = record { seqscan = true; indexscan = true; hashjoin = true; nestloop = true; sort = true }

abbrev pub with_switch : Switch → Bool → Switches → Switches
with_switch switch.Seqscan on switches = record switches { seqscan = on }
with_switch switch.Indexscan on switches = record switches { indexscan = on }
with_switch switch.Hashjoin on switches = record switches { hashjoin = on }
with_switch switch.Nestloop on switches = record switches { nestloop = on }
with_switch switch.Sort on switches = record switches { sort = on }

-- one value changed
abbrev pub with_choice : Choice → Choices → Choices
with_choice (choice.Mode mode) choices = record choices { mode = mode }
with_choice (choice.Switch switch on) choices = record choices { switches = with_switch switch on choices.switches }
