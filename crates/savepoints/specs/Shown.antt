-- What SHOW prints.
use Rattle.std.specs.Prelude.{ℕ, Bool, true, false, not, ◌&&◌, ◌||◌, ◌==◌, if◌then◌else◌, Option, None, Some, Result, Ok, Err, List, [], ◌∷◌, ◌++◌, codes}
use Rattle.std.specs.Char.{is_ascii_digit, is_ascii_lowercase}
use Rattle.std.specs.List.{list_all}
use Rattle.q_base.specs.declared.code.Code.TheVariants.{UnknownSetting}
use Rattle.q_base.specs.declared.errors.SqlError.{SqlError}
use Rattle.q_base.specs.declared.settings.Mode.{Mode}
use Rattle.q_base.specs.declared.settings.Mode.TheVariants as mode
use Rattle.q_base.specs.declared.settings.Switches.{Switches}
use Rattle.sql_expr.specs.Names.{is_reserved}
use Rattle.savepoints.specs.declared.given.Name.{Name}
use Rattle.savepoints.specs.declared.given.Name.TheVariants as names
use Rattle.savepoints.specs.declared.given.Switch.{Switch}
use Rattle.savepoints.specs.declared.given.Switch.TheVariants as switch
use Rattle.savepoints.specs.Given.{named}
use Rattle.savepoints.specs.Values.{Values}

abbrev pub mode_word : Mode → List ℕ
mode_word mode.Auto = codes "auto"
mode_word mode.Generic = codes "force_generic_plan"
mode_word mode.Custom = codes "force_custom_plan"

abbrev pub switch_word : Bool → List ℕ
switch_word true = codes "on"
switch_word false = codes "off"

abbrev pub is_on : Switch → Switches → Bool
is_on switch.Seqscan switches = switches.seqscan
is_on switch.Indexscan switches = switches.indexscan
is_on switch.Hashjoin switches = switches.hashjoin
is_on switch.Nestloop switches = switches.nestloop
is_on switch.Sort switches = switches.sort

-- a small ASCII letter, a digit or an underscore
abbrev pub is_name_byte : ℕ → Bool
is_name_byte b = is_ascii_lowercase b || is_ascii_digit b || b == 95

abbrev pub has_name_bytes : List ℕ → Bool
has_name_bytes name = list_all is_name_byte name

abbrev pub begins_name : List ℕ → Bool
begins_name [] = false
begins_name (b ∷ bs) = not (is_ascii_digit b)

-- the name needs no quotes
unfoldable pub is_plain : List ℕ → Bool
is_plain name = begins_name name && has_name_bytes name && not (is_reserved name)

-- each quote twice
abbrev pub doubled : List ℕ → List ℕ
doubled [] = []
doubled (b ∷ bs) = if b == 34 then 34 ∷ 34 ∷ doubled bs else b ∷ doubled bs

-- a name of a path
abbrev pub shown_name : List ℕ → List ℕ
shown_name name = if is_plain name then name else codes "\"" ++ doubled name ++ codes "\""

-- names after the first
abbrev pub shown_more : List (List ℕ) → List ℕ
shown_more [] = []
shown_more (name ∷ names) = codes ", " ++ shown_name name ++ shown_more names

-- a path: its names with a comma and a blank between
abbrev pub shown_path : List (List ℕ) → List ℕ
shown_path [] = []
shown_path (name ∷ names) = shown_name name ++ shown_more names

-- the value of a setting
abbrev pub shown : Name → Values → List ℕ
shown names.SearchPath values = shown_path values.path
shown names.PlanCacheMode values = mode_word values.choices.mode
shown (names.Switch switch) values = switch_word (is_on switch values.choices.switches)

-- the value of the setting of a name, after what was there
abbrev pub shown_named : List ℕ → List ℕ → Values → Option Name → Result (List ℕ) SqlError
shown_named before name values None = Err (record { code = UnknownSetting; args = name ∷ [] })
shown_named before name values (Some setting) = Ok (before ++ shown setting values)

-- SHOW
abbrev pub shown_after : List ℕ → List ℕ → Values → Result (List ℕ) SqlError
shown_after before name values = shown_named before name values (named name)
