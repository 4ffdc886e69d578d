-- When two statements give the same columns.
use Rattle.std.specs.Prelude.{ℕ, suc, ◌==◌, Bool, true, false, ◌&&◌, if◌then◌else◌, Option, None, Some, List, [], ◌∷◌, length, slice_get}
use Rattle.std.specs.Str.{bytes_eq}
use denote.Enum.Bare.{sameb}
use Rattle.q_value.specs.declared.value.SqlType.{SqlType}
use Rattle.q_value.specs.contracts.value.SqlType as sql_type
use Rattle.query_tree.specs.declared.result.ResultColumn.{ResultColumn}
use Rattle.query_tree.specs.declared.result.ResultType.{ResultType}

abbrev pub same_kind : SqlType → SqlType → Bool
same_kind = sameb sql_type.the_type

abbrev pub is_same_column : ResultColumn → ResultColumn → Bool
is_same_column left right = same_kind left.kind right.kind && bytes_eq left.name right.name

abbrev pub is_same_as : ResultColumn → Option ResultColumn → Bool
is_same_as left None = false
is_same_as left (Some right) = is_same_column left right

unfoldable pub is_same_at : ℕ → ResultColumn → List ResultColumn → Bool
is_same_at at left rights = is_same_as left (slice_get rights at)

-- the columns are the other ones from a place on
abbrev pub agree_from : ℕ → List ResultColumn → List ResultColumn → Bool
agree_from at [] rights = true
agree_from at (left ∷ lefts) rights = if is_same_at at left rights then agree_from (suc at) lefts rights else false

-- as many, with the same names and types in the same order
abbrev pub are_same_columns : List ResultColumn → List ResultColumn → Bool
are_same_columns lefts rights = if length lefts == length rights then agree_from 0 lefts rights else false

abbrev pub are_same_answers : Option (List ResultColumn) → Option (List ResultColumn) → Bool
are_same_answers None None = true
are_same_answers None (Some right) = false
are_same_answers (Some left) None = false
are_same_answers (Some left) (Some right) = are_same_columns left right

-- the same columns, or no rows either way
abbrev pub is_same_result : ResultType → ResultType → Bool
is_same_result left right = are_same_answers left.columns right.columns
