-- Which setting a name means, and which value SET gives it.
use Rattle.std.specs.Prelude.{ℕ, ℤ, pos, Bool, true, false, if◌then◌else◌, Option, None, Some, Result, Ok, List, [], ◌∷◌, map, option_map, codes}
use Rattle.std.specs.Ordering.{int_eq}
use Rattle.std.specs.Str.{bytes_eq, str_eq_ignore_ascii_case}
use Rattle.q_base.specs.declared.code.Code.TheVariants.{InvalidSettingValue}
use Rattle.q_base.specs.declared.errors.SqlError.{SqlError}
use Rattle.q_base.specs.declared.settings.Mode.{Mode}
use Rattle.q_base.specs.declared.settings.Mode.TheVariants as mode
use Rattle.q_base.specs.declared.settings.Setting.{Setting}
use Rattle.q_base.specs.declared.settings.SetValue.{SetValue}
use Rattle.q_base.specs.declared.settings.SetValue.TheVariants as value
use Rattle.q_value.specs.Parse.{bare_text, integer_of, truth_of, or_error}
use Rattle.savepoints.specs.declared.given.Choice.{Choice}
use Rattle.savepoints.specs.declared.given.Choice.TheVariants as choice
use Rattle.savepoints.specs.declared.given.Given.{Given}
use Rattle.savepoints.specs.declared.given.Given.TheVariants as given
use Rattle.savepoints.specs.declared.given.Name.{Name}
use Rattle.savepoints.specs.declared.given.Name.TheVariants as names
use Rattle.savepoints.specs.declared.given.Switch.TheVariants as switch

-- the setting of a name
abbrev pub named : List ℕ → Option Name
named text =
    if bytes_eq text (codes "search_path") then Some names.SearchPath else
    (if bytes_eq text (codes "plan_cache_mode") then Some names.PlanCacheMode else
    (if bytes_eq text (codes "enable_seqscan") then Some (names.Switch switch.Seqscan) else
    (if bytes_eq text (codes "enable_indexscan") then Some (names.Switch switch.Indexscan) else
    (if bytes_eq text (codes "enable_hashjoin") then Some (names.Switch switch.Hashjoin) else
    (if bytes_eq text (codes "enable_nestloop") then Some (names.Switch switch.Nestloop) else
    (if bytes_eq text (codes "enable_sort") then Some (names.Switch switch.Sort) else None))))))

abbrev pub default_path : List (List ℕ)
default_path = codes "public" ∷ []

-- the value that a setting has where nothing has set it
abbrev pub default_of : Name → Mode → Given
default_of names.SearchPath default_mode = given.Path default_path
default_of names.PlanCacheMode default_mode = given.Choice (choice.Mode default_mode)
default_of (names.Switch switch) default_mode = given.Choice (choice.Switch switch true)

-- each value names a schema
abbrev pub path_of : List Setting → List (List ℕ)
path_of written = map (λ (one : Setting). one.text) written

-- the mode that a value means: one of three words in any case, and no number
abbrev pub mode_of : Setting → Option Mode
mode_of written =
    if written.number then None else
    (if str_eq_ignore_ascii_case written.text (codes "auto") then Some mode.Auto else
    (if str_eq_ignore_ascii_case written.text (codes "force_generic_plan") then Some mode.Generic else
    (if str_eq_ignore_ascii_case written.text (codes "force_custom_plan") then Some mode.Custom else None)))

-- 0 is off and 1 is on
abbrev pub number_truth : Option ℤ → Option Bool
number_truth None = None
number_truth (Some number) = if int_eq number (pos 0) then Some false else (if int_eq number (pos 1) then Some true else None)

-- the truth value of a text without blanks around it
abbrev pub text_truth : List ℕ → Option Bool
text_truth text = if bytes_eq (bare_text text) text then truth_of (bare_text text) else None

-- whether a value means on or off: a number by its value, another by its text
abbrev pub switch_truth : Setting → Option Bool
switch_truth written = if written.number then number_truth (integer_of (bare_text written.text)) else text_truth written.text

-- what one value means for a setting other than search_path
abbrev pub choice_of : Name → Setting → Option Choice
choice_of names.SearchPath written = None
choice_of names.PlanCacheMode written = option_map choice.Mode (mode_of written)
choice_of (names.Switch switch) written = option_map (choice.Switch switch) (switch_truth written)

-- such a setting takes one value
abbrev pub only_choice : Name → List Setting → Option Choice
only_choice setting [] = None
only_choice setting (only ∷ []) = choice_of setting only
only_choice setting (first ∷ second ∷ others) = None

-- the value to name where none can be taken: of several the second
abbrev pub bad_text : List Setting → List ℕ
bad_text [] = []
bad_text (only ∷ []) = only.text
bad_text (first ∷ second ∷ others) = second.text

abbrev pub invalid : List ℕ → List ℕ → SqlError
invalid name text = record { code = InvalidSettingValue; args = name ∷ text ∷ [] }

-- the value that is written for a setting, or its refusal
abbrev pub from_written : List ℕ → Name → List Setting → Result Given SqlError
from_written name names.SearchPath written = Ok (given.Path (path_of written))
from_written name setting written = or_error (invalid name (bad_text written)) (option_map given.Choice (only_choice setting written))

-- the value that SET gives a setting, or its refusal
abbrev pub value_given : List ℕ → Name → SetValue → Mode → Result Given SqlError
value_given name setting value.Default default_mode = Ok (default_of setting default_mode)
value_given name setting (value.List written) default_mode = from_written name setting written
