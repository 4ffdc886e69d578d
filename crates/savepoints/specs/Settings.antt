-- The settings of a session: SET, marks, and the way back to them.
use Rattle.std.specs.Prelude.{◌≡◌, ℕ, ◌-◌, ◌≤◌, suc, zero, Bool, Option, None, Some, Result, Ok, Err, List, [], ◌∷◌, length, drop}
use Rattle.q_base.specs.declared.code.Code.TheVariants.{UnknownSetting}
use Rattle.q_base.specs.declared.errors.SqlError.{SqlError}
use Rattle.q_base.specs.declared.settings.Mode.{Mode}
use Rattle.q_base.specs.declared.settings.SetValue.{SetValue}
use Rattle.savepoints.specs.declared.given.Given.{Given}
use Rattle.savepoints.specs.declared.given.Name.{Name}
use Rattle.savepoints.specs.declared.held.Replaced.{Replaced}
use Rattle.savepoints.specs.Choices.{all_on}
use Rattle.savepoints.specs.Given.{named, default_path, value_given}
use Rattle.savepoints.specs.Values as values
use Rattle.savepoints.specs.Values.{Both, Values, put, undone}

-- the default of plan_cache_mode, the values, and a copy of them from before each change that can be taken back, the last first
pub record SettingsState : Type 0 where
  pub default_mode : Mode
  pub values : Both
  pub past : List Both

-- the copies, from what the changes replaced, the last first
abbrev pub copies : Both → List Replaced → List Both
copies now [] = []
copies now (replaced ∷ log) = undone replaced now ∷ copies (undone replaced now) log

abbrev pub state_of : Mode → Both → List Replaced → SettingsState
state_of default_mode now log = record { default_mode = default_mode; values = now; past = copies now log }

-- the values of all settings that nothing has set
abbrev pub defaults : Mode → Values
defaults mode = record { path = default_path; choices = record { mode = mode; switches = all_on } }

-- the settings of a new session
abbrev pub begun : Mode → SettingsState
begun mode = record { default_mode = mode; values = record { session = defaults mode; current = defaults mode }; past = [] }

-- a change, which copies the values before it
abbrev pub changed : Bool → SettingsState → Result Given SqlError → Result SettingsState SqlError
changed local state (Ok given) = Ok (record state { values = put local given state.values; past = state.values ∷ state.past })
changed local state (Err error) = Err error

-- a change of the setting of a name
abbrev pub set_named : List ℕ → SetValue → Bool → SettingsState → Option Name → Result SettingsState SqlError
set_named name value local state None = Err (record { code = UnknownSetting; args = name ∷ [] })
set_named name value local state (Some setting) = changed local state (value_given name setting value state.default_mode)

-- SET, SET LOCAL and RESET
abbrev pub set : List ℕ → SetValue → Bool → SettingsState → Result SettingsState SqlError
set name value local state = set_named name value local state (named name)

-- COMMIT: SET LOCAL ends, and no change can be taken back
abbrev pub committed : SettingsState → SettingsState
committed state = record state { values = values.committed state.values; past = [] }

-- the values before some of the last changes
abbrev pub earlier : ℕ → Both → List Both → Both
earlier zero now past = now
earlier (suc n) now [] = now
earlier (suc n) now (copy ∷ past) = earlier n copy past

-- the settings before some of the last changes
abbrev pub back : ℕ → SettingsState → SettingsState
back count state = record state { values = earlier count state.values state.past; past = drop count state.past }

-- a mark is the number of changes that could be taken back; it stands while no more than that were
abbrev pub Stands : SettingsState → ℕ → Type 0
Stands state mark = mark ≤ length state.past

-- the settings that a mark names
abbrev pub at_mark : SettingsState → ℕ → SettingsState
at_mark state mark = back (length state.past - mark) state

-- the values that a mark names
abbrev pub values_at : SettingsState → ℕ → Both
values_at state mark = (at_mark state mark).values

-- a mark goes on standing, and names the same values
pub record KeepsMark (old new : SettingsState) (mark : ℕ) : Type 0 where
  pub stands : Stands new mark
  pub names : values_at new mark ≡ values_at old mark

-- each mark goes on standing
abbrev pub KeepsMarks : SettingsState → SettingsState → Type 0
KeepsMarks old new = (mark : ℕ) → Stands old mark → KeepsMark old new mark
