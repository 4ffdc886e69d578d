-- What the words after the program's name ask for.
use Rattle.std.specs.Prelude.{Bool, true, false, List, [], ◌∷◌, Option, None, Some, is_some, option_map, codes, if◌then◌else◌}
use Rattle.std.specs.Str.{bytes_eq}
use Rattle.clap.specs.Words.{App, Row, Rule, Text, Kinds, first_of, fault_of, matches_of, new_app, new_rule, with_rule}
use Rattle.clap.specs.Simple.{on_top}
use Rattle.clap.specs.declared.builder.ArgAction.TheVariants.{Set, SetTrue}
use Rattle.q_base.specs.declared.settings.Mode.{Mode}
use Rattle.q_base.specs.declared.settings.Mode.TheVariants.{Auto, Generic, Custom}
use Rattle.session_cli.specs.declared.options.Options.{Options}

-- --stop, --mode VALUE and --make VALUE
abbrev pub stop_rule : Rule
stop_rule = record (new_rule (codes "stop")) { long = Some (codes "stop"); action = Some SetTrue }

abbrev pub mode_rule : Rule
mode_rule = record (new_rule (codes "mode")) { long = Some (codes "mode"); action = Some Set }

abbrev pub make_rule : Rule
make_rule = record (new_rule (codes "make")) { long = Some (codes "make"); action = Some Set }

-- the program's command line: these three, no words of another kind and no help
abbrev pub app : App
app =
    with_rule (with_rule (with_rule (on_top (λ s. record s { no_binary_name = true; disable_help_flag = true }) (new_app (codes "toasterglen"))) stop_rule) mode_rule) make_rule

abbrev pub is_none_of : Kinds → Bool
is_none_of [] = true
is_none_of (kind ∷ kinds) = false

abbrev pub is_on : Option Text → Bool
is_on None = false
is_on (Some text) = bytes_eq text (codes "true")

-- the mode of a name; auto where none is given
abbrev pub mode_named : Option Text → Option Mode
mode_named None = Some Auto
mode_named (Some text) =
    if bytes_eq text (codes "auto") then Some Auto else (if bytes_eq text (codes "force_generic_plan") then Some Generic
    else (if bytes_eq text (codes "force_custom_plan") then Some Custom else None))

-- what the values ask for; --make isn't built yet
unfoldable pub options_in : List Row → Option Options
options_in rows =
    if is_some (first_of (codes "make") rows) then None
    else option_map (λ mode. record { stop = is_on (first_of (codes "stop") rows); mode = mode }) (mode_named (first_of (codes "mode") rows))

-- what the words ask for, where the command line takes them
unfoldable pub options_of : List Text → Option Options
options_of words = if is_none_of (fault_of app words) then options_in (matches_of app words) else None
