-- The table of operators answers by the rule: each of the 250 keys is tried.
use Rattle.std.proofs.Common.{◌≡◌, refl}
use Rattle.std.specs.declared.cmp.Ordering.{Ordering}
use Rattle.std.specs.Ordering.{ordering_then}
use Rattle.q_base.specs.Tables.{value_of}
use Rattle.q_value.specs.declared.value.SqlType.{SqlType}
use Rattle.q_value.specs.declared.value.SqlType.TheVariants as kind
use Rattle.q_value.specs.contracts.value.SqlTypeOrd.TheImpl as kinds
use Rattle.q_scalar.specs.declared.operators.Op.{Op}
use Rattle.q_scalar.specs.declared.operators.Op.TheVariants as op
use Rattle.q_scalar.specs.declared.operators.TheConstants.{OPERATORS}
use Rattle.q_scalar.specs.contracts.operators.OpOrd.TheImpl as ops
use Rattle.q_scalar.specs.Operators.{op_row}

-- by the operator, and then by the two types
abbrev pub key_cmp : Op × SqlType × SqlType → Op × SqlType × SqlType → Ordering
key_cmp a b = ordering_then (ordering_then (ops.ghosts.cmp a.0 b.0) (kinds.ghosts.cmp a.1 b.1)) (kinds.ghosts.cmp a.2 b.2)

abbrev Answered : Op → SqlType → SqlType → Type 0
Answered sign left right = value_of key_cmp (sign, left, right) OPERATORS ≡ op_row sign left right

by_kind : (P : SqlType → Type 0) → P kind.Int2 → P kind.Int4 → P kind.Int8 → P kind.Text → P kind.Bool → (type : SqlType) → P type
by_kind P a b c d e kind.Int2 = a
by_kind P a b c d e kind.Int4 = b
by_kind P a b c d e kind.Int8 = c
by_kind P a b c d e kind.Text = d
by_kind P a b c d e kind.Bool = e

pub answered : (sign : Op) (left right : SqlType) → Answered sign left right
answered op.Equal left right = by_kind (λ type. Answered op.Equal type right) (by_kind (Answered op.Equal kind.Int2) refl refl refl refl refl right) (by_kind (Answered op.Equal kind.Int4) refl refl refl refl refl right) (by_kind (Answered op.Equal kind.Int8) refl refl refl refl refl right) (by_kind (Answered op.Equal kind.Text) refl refl refl refl refl right) (by_kind (Answered op.Equal kind.Bool) refl refl refl refl refl right) left
answered op.NotEqual left right = by_kind (λ type. Answered op.NotEqual type right) (by_kind (Answered op.NotEqual kind.Int2) refl refl refl refl refl right) (by_kind (Answered op.NotEqual kind.Int4) refl refl refl refl refl right) (by_kind (Answered op.NotEqual kind.Int8) refl refl refl refl refl right) (by_kind (Answered op.NotEqual kind.Text) refl refl refl refl refl right) (by_kind (Answered op.NotEqual kind.Bool) refl refl refl refl refl right) left
answered op.Less left right = by_kind (λ type. Answered op.Less type right) (by_kind (Answered op.Less kind.Int2) refl refl refl refl refl right) (by_kind (Answered op.Less kind.Int4) refl refl refl refl refl right) (by_kind (Answered op.Less kind.Int8) refl refl refl refl refl right) (by_kind (Answered op.Less kind.Text) refl refl refl refl refl right) (by_kind (Answered op.Less kind.Bool) refl refl refl refl refl right) left
answered op.LessEqual left right = by_kind (λ type. Answered op.LessEqual type right) (by_kind (Answered op.LessEqual kind.Int2) refl refl refl refl refl right) (by_kind (Answered op.LessEqual kind.Int4) refl refl refl refl refl right) (by_kind (Answered op.LessEqual kind.Int8) refl refl refl refl refl right) (by_kind (Answered op.LessEqual kind.Text) refl refl refl refl refl right) (by_kind (Answered op.LessEqual kind.Bool) refl refl refl refl refl right) left
answered op.Greater left right = by_kind (λ type. Answered op.Greater type right) (by_kind (Answered op.Greater kind.Int2) refl refl refl refl refl right) (by_kind (Answered op.Greater kind.Int4) refl refl refl refl refl right) (by_kind (Answered op.Greater kind.Int8) refl refl refl refl refl right) (by_kind (Answered op.Greater kind.Text) refl refl refl refl refl right) (by_kind (Answered op.Greater kind.Bool) refl refl refl refl refl right) left
answered op.GreaterEqual left right = by_kind (λ type. Answered op.GreaterEqual type right) (by_kind (Answered op.GreaterEqual kind.Int2) refl refl refl refl refl right) (by_kind (Answered op.GreaterEqual kind.Int4) refl refl refl refl refl right) (by_kind (Answered op.GreaterEqual kind.Int8) refl refl refl refl refl right) (by_kind (Answered op.GreaterEqual kind.Text) refl refl refl refl refl right) (by_kind (Answered op.GreaterEqual kind.Bool) refl refl refl refl refl right) left
answered op.Add left right = by_kind (λ type. Answered op.Add type right) (by_kind (Answered op.Add kind.Int2) refl refl refl refl refl right) (by_kind (Answered op.Add kind.Int4) refl refl refl refl refl right) (by_kind (Answered op.Add kind.Int8) refl refl refl refl refl right) (by_kind (Answered op.Add kind.Text) refl refl refl refl refl right) (by_kind (Answered op.Add kind.Bool) refl refl refl refl refl right) left
answered op.Subtract left right = by_kind (λ type. Answered op.Subtract type right) (by_kind (Answered op.Subtract kind.Int2) refl refl refl refl refl right) (by_kind (Answered op.Subtract kind.Int4) refl refl refl refl refl right) (by_kind (Answered op.Subtract kind.Int8) refl refl refl refl refl right) (by_kind (Answered op.Subtract kind.Text) refl refl refl refl refl right) (by_kind (Answered op.Subtract kind.Bool) refl refl refl refl refl right) left
answered op.Multiply left right = by_kind (λ type. Answered op.Multiply type right) (by_kind (Answered op.Multiply kind.Int2) refl refl refl refl refl right) (by_kind (Answered op.Multiply kind.Int4) refl refl refl refl refl right) (by_kind (Answered op.Multiply kind.Int8) refl refl refl refl refl right) (by_kind (Answered op.Multiply kind.Text) refl refl refl refl refl right) (by_kind (Answered op.Multiply kind.Bool) refl refl refl refl refl right) left
answered op.Divide left right = by_kind (λ type. Answered op.Divide type right) (by_kind (Answered op.Divide kind.Int2) refl refl refl refl refl right) (by_kind (Answered op.Divide kind.Int4) refl refl refl refl refl right) (by_kind (Answered op.Divide kind.Int8) refl refl refl refl refl right) (by_kind (Answered op.Divide kind.Text) refl refl refl refl refl right) (by_kind (Answered op.Divide kind.Bool) refl refl refl refl refl right) left
