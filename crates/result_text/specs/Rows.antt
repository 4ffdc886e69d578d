-- What is printed for rows.
use Rattle.std.specs.Prelude.{ℕ, ◌==◌, List, [], ◌∷◌, ◌++◌, length, Option, None, Some, codes, if◌then◌else◌}
use Rattle.std.specs.Fmt.{decimal}
use Rattle.q_value.specs.declared.value.Value.{Value}
use Rattle.q_value.specs.Print.{printed}
use Rattle.query_tree.specs.declared.result.ResultColumn.{ResultColumn}
use Rattle.query_tree.specs.declared.result.ResultType.{ResultType}

-- the columns' names behind the first, each behind a bar
abbrev pub more_names : List ResultColumn → List ℕ
more_names [] = []
more_names (column ∷ columns) = codes "|" ++ column.name ++ more_names columns

-- the columns' names, with a bar between two
abbrev pub names_line : List ResultColumn → List ℕ
names_line [] = codes "\n"
names_line (column ∷ columns) = column.name ++ more_names columns ++ codes "\n"

-- the values behind the first, each behind a bar
abbrev pub more_values : List Value → List ℕ
more_values [] = []
more_values (value ∷ values) = codes "|" ++ printed value ++ more_values values

-- the values of a row, with a bar between two
abbrev pub row_line : List Value → List ℕ
row_line [] = codes "\n"
row_line (value ∷ values) = printed value ++ more_values values ++ codes "\n"

abbrev pub row_lines : List (List Value) → List ℕ
row_lines [] = []
row_lines (row ∷ rows) = row_line row ++ row_lines rows

-- the number of rows
abbrev pub count_line : ℕ → List ℕ
count_line count = if count == 1 then codes "(1 row)\n" else codes "(" ++ decimal count ++ codes " rows)\n"

abbrev pub lines_of : Option (List ResultColumn) → List (List Value) → List ℕ
lines_of None rows = []
lines_of (Some columns) rows = names_line columns ++ row_lines rows ++ count_line (length rows)

-- the columns' names, the rows and their number; nothing for a statement that gives no rows
unfoldable pub rows_lines : ResultType → List (List Value) → List ℕ
rows_lines shape rows = lines_of shape.columns rows
