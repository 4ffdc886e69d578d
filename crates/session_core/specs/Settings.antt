-- SET, RESET and SHOW.
use Rattle.std.specs.Prelude.{◌≡◌, ℕ, List, [], ◌∷◌, ◌++◌, Bool, true, false, Result, Ok, Err, codes, ◌&&◌}
use Rattle.q_base.specs.declared.code.Code.TheVariants.{OnlyInBlock}
use Rattle.q_base.specs.declared.errors.SqlError.{SqlError}
use Rattle.q_base.specs.declared.settings.SetValue.{SetValue}
use Rattle.q_base.specs.declared.settings.SetValue.TheVariants as set_value
use Rattle.savepoints.specs.Blocks.{is_open}
use Rattle.savepoints.specs.Settings.{SettingsState, at_mark, set}
use Rattle.savepoints.specs.Shown.{shown_after}
use Rattle.sql_tree.specs.declared.command.SetTree.{SetTree}
use Rattle.result_text.specs.declared.tags.Tag.TheVariants as tag
use Rattle.result_text.specs.Messages.{warning_line}
use Rattle.result_text.specs.Rows.{count_line}
use Rattle.result_text.specs.Tags.{tag_line}
use Rattle.session_core.specs.Arguments.{and_then}
use Rattle.session_core.specs.State.{State, Case, Leads, Prints}

-- SET gives the value; SET LOCAL outside a block warns and sets nothing
abbrev pub set_answer : Bool → Bool → State → SettingsState → List ℕ × State
set_answer true false state settings = (warning_line (record { code = OnlyInBlock; args = codes "SET LOCAL" ∷ [] }) ++ tag_line tag.Set 0, state)
set_answer true true state settings = (tag_line tag.Set 0, record state { settings = settings })
set_answer false in_block state settings = (tag_line tag.Set 0, record state { settings = settings })

abbrev pub warned : List ℕ
warned = warning_line (record { code = OnlyInBlock; args = codes "SET LOCAL" ∷ [] }) ++ tag_line tag.Set 0

-- the settings are those of a mark again
abbrev pub Unsets : State → ℕ → Case
Unsets state mark outcome state2 = (outcome ≡ Ok warned) × (state2 ≡ record state { settings = at_mark state.settings mark })

-- SET that gives the value, and SET that warns and sets nothing
abbrev pub SetsValue : State → SetTree → Case
SetsValue state tree = Leads state (and_then (set tree.name tree.value tree.local state.settings) (λ settings. Ok (tag_line tag.Set 0, record state { settings = settings })))

abbrev pub SetsNothing : State → SetTree → Case
SetsNothing state tree = Leads state (and_then (set tree.name tree.value tree.local state.settings) (λ settings. Ok (warned, state)))

abbrev pub Sets : State → SetTree → Case
Sets state tree = Leads state (and_then (set tree.name tree.value tree.local state.settings) (λ settings. Ok (set_answer tree.local (is_open state.block) state settings)))

abbrev pub ResetsTo : State → List ℕ → SetValue → Case
ResetsTo state name value = Leads state (and_then (set name value false state.settings) (λ settings. Ok (tag_line tag.Reset 0, record state { settings = settings })))

abbrev pub Resets : State → List ℕ → Case
Resets state name = ResetsTo state name set_value.Default

-- the setting's name, its value, and the number of rows
abbrev pub shown_lines : List ℕ → List ℕ → List ℕ
shown_lines name value = name ++ codes "\n" ++ value ++ codes "\n" ++ count_line 1

abbrev pub ShowsAfter : State → List ℕ → List ℕ → Case
ShowsAfter state before name = Prints state (and_then (shown_after before name state.settings.values.current) (λ value. Ok (shown_lines name value)))

abbrev pub Shows : State → List ℕ → Case
Shows state name = ShowsAfter state [] name
