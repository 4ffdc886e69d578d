-- Lists of names.
use Rattle.std.specs.Prelude.{Bool, true, false, Result, Ok, Err, List, [], ◌∷◌, ◌++◌, if◌then◌else◌}
use Rattle.std.specs.Str.{bytes_eq}
use Rattle.q_base.specs.declared.code.Code.{Code}
use Rattle.q_base.specs.declared.code.Code.TheVariants.{ColumnSpecifiedTwice}
use Rattle.q_base.specs.declared.errors.SqlError.{SqlError}
pub use Rattle.cat_names.specs.Paths.{Text}
pub use Rattle.cat_names.specs.Lookup.{naming, or_refused, written}
pub use Rattle.q_value.specs.Conversions.{plain}

-- a refusal whose text names two or three things
abbrev pub naming_two : Code → Text → Text → SqlError
naming_two code first second = record { code = code; args = first ∷ second ∷ [] }

abbrev pub naming_three : Code → Text → Text → Text → SqlError
naming_three code first second third = record { code = code; args = first ∷ second ∷ third ∷ [] }

-- goes on with what was found, and else keeps the refusal
abbrev pub go_on : {A B : Type 0} → Result A SqlError → (A → Result B SqlError) → Result B SqlError
go_on (Ok found) f = f found
go_on (Err error) f = Err error

-- what only refuses or lets pass
abbrev pub Checked : Type 0
Checked = Result (Unit {0}) SqlError

abbrev pub is_named : Text → List Text → Bool
is_named name [] = false
is_named name (other ∷ others) = if bytes_eq other name then true else is_named name others

-- none of the names stands before, or among those before it; else the first one is 42701
abbrev pub unrepeated_from : List Text → List Text → Checked
unrepeated_from before [] = Ok tt
unrepeated_from before (name ∷ names) = if is_named name before then Err (naming ColumnSpecifiedTwice name) else unrepeated_from (before ++ name ∷ []) names

abbrev pub unrepeated : List Text → Checked
unrepeated names = unrepeated_from [] names
