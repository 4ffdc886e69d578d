-- What is printed for refusals and warnings.
use Rattle.std.specs.Prelude.{ℕ, ◌==◌, List, [], ◌∷◌, ◌++◌, drop, codes, if◌then◌else◌}
use Rattle.q_base.specs.declared.errors.SqlError.{SqlError}
use Rattle.q_base.specs.Texts.{sqlstate_of, template_of}

abbrev pub first_argument : List (List ℕ) → List ℕ
first_argument [] = []
first_argument (argument ∷ arguments) = argument

-- what a byte of a template prints: % the first argument that is left, and any other itself
abbrev pub printed : ℕ → List (List ℕ) → List ℕ
printed b arguments = if b == 37 then first_argument arguments else b ∷ []

abbrev pub left_after : ℕ → List (List ℕ) → List (List ℕ)
left_after b arguments = if b == 37 then drop 1 arguments else arguments

-- a template with its arguments in their places
abbrev pub filled : List ℕ → List (List ℕ) → List ℕ
filled [] arguments = []
filled (b ∷ template) arguments = printed b arguments ++ filled template (left_after b arguments)

-- the SQLSTATE and the text
unfoldable pub message : SqlError → List ℕ
message error = sqlstate_of error.code ++ codes ": " ++ filled (template_of error.code) error.args ++ codes "\n"

unfoldable pub error_line : SqlError → List ℕ
error_line error = codes "ERROR:  " ++ message error

unfoldable pub warning_line : SqlError → List ℕ
warning_line error = codes "WARNING:  " ++ message error
