-- Parameters, $1 to $64.
use Rattle.std.specs.Prelude.{ℕ, pred, ℤ, pos, nat_abs, int_le, false, ◌&&◌, Option, None, Some, Ok, Err, if◌then◌else◌}
use Rattle.std.specs.Ordering.{int_eq}
use Rattle.q_base.specs.declared.code.Code.TheVariants.{UnknownParameter, LimitExceeded}
use Rattle.q_base.specs.declared.errors.SqlError.{SqlError}
use Rattle.q_value.specs.Conversions.{plain}
use Rattle.query_tree.specs.declared.target.Target.TheVariants as target
use Rattle.expr_analysis.specs.declared.node.Node.{Node}
use Rattle.expr_analysis.specs.declared.node.Node.TheVariants as node
use Rattle.expr_analysis.specs.declared.state.Known.{Known}
use Rattle.expr_analysis.specs.declared.state.Known.TheVariants.{Unused, Untyped, Typed}
use Rattle.expr_analysis.specs.Analysis.{Analysis, pure, refuse, known_at, reached, noted}
use Rattle.expr_analysis.specs.Nodes.{Text, naming}
use Rattle.expr_analysis.specs.Numbers.{number_of, shown_number}

abbrev pub unknown_parameter : Text → SqlError
unknown_parameter digits = naming UnknownParameter (shown_number false digits)

-- a use of a parameter of which that is known; the first one in the first reading counts as a use without a type
abbrev pub used_as : ℕ → Known → Analysis Node
used_as number (Typed kind) = pure (node.Typed (target.Param kind number))
used_as number Untyped = pure node.Null
used_as number Unused = λ s. if s.first then Ok (node.First (pred number), record s { known = noted (pred number) Untyped s.known }) else Ok (node.Null, s)

unfoldable pub used : ℕ → Analysis Node
used number = λ s.
    let known = reached (pred number) s.known in
    used_as number (known_at known (pred number)) (record s { known = known })

abbrev pub numbered : Text → Option ℤ → Analysis Node
numbered digits None = refuse (plain LimitExceeded)
numbered digits (Some number) =
    if int_eq number (pos 0) then refuse (unknown_parameter digits)
    else (if int_le (pos 1) number && int_le number (pos 64) then used (nat_abs number) else refuse (plain LimitExceeded))

unfoldable pub param : Text → Analysis Node
param digits = λ s. if s.prepared then numbered digits (number_of false digits) s else Err (unknown_parameter digits, s)
