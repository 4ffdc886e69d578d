use Rattle.std.proofs.Common.{◌≡◌, ℕ, Bool, true, false, List, refl, ap}
use Rattle.std.specs.Str.{IsUtf8, is_utf8}
use Rattle.std.proofs.lemmas.Str.{IsUtf8-from_is_utf8, is_utf8-from_IsUtf8}
use Rattle.sql_tokens.specs.declared.splitter.text.Reading.TheVariants as reading
use Rattle.sql_tokens.proofs.Taking.{on_err}
use Rattle.sql_tokens.proofs.splitter.text.read.Goals as goal

is_utf8-false_along : (bytes : List ℕ) (v : Bool) → is_utf8 bytes ≡ v → ¬ (IsUtf8 bytes) → is_utf8 bytes ≡ false
is_utf8-false_along bytes true e h = absurd (h (IsUtf8-from_is_utf8 bytes e))
is_utf8-false_along bytes false e h = e

is_utf8-false : (bytes : List ℕ) → ¬ (IsUtf8 bytes) → is_utf8 bytes ≡ false
is_utf8-false bytes h = is_utf8-false_along bytes (is_utf8 bytes) refl h

pub returns-in-Err-clause-ok : goal.returns-in-Err-clause-ok
returns-in-Err-clause-ok c = rw (is_utf8-false c.args.bytes.now c.in-Err.ensures.cases.0) refl

pub returns-in-Ok-clause-ok : goal.returns-in-Ok-clause-ok
returns-in-Ok-clause-ok c = rw (is_utf8-from_IsUtf8 c.args.bytes.now c.in-Ok.ensures.cases.1, c.if-blank.true) refl

pub returns-in_ok-from_text-in-Ok-2-clause-ok : goal.returns-in_ok-from_text-in-Ok-2-clause-ok
returns-in_ok-from_text-in-Ok-2-clause-ok c =
    rw (is_utf8-from_IsUtf8 c.args.bytes.now c.in-Ok-2.ensures.cases.1, c.if-blank.false, c.in_ok-from_text-in-Ok-2.ensures) (ap (λ (x : List ℕ). reading.Command x) c.in-Ok.ensures.cases.0)

pub returns-in_err-from_text-in-Ok-2-clause-err : goal.returns-in_err-from_text-in-Ok-2-clause-err
returns-in_err-from_text-in-Ok-2-clause-err c =
    on_err c.from_residual.result (is_utf8-from_IsUtf8 c.args.bytes.now c.in-Ok-2.ensures.cases.1, c.if-blank.false)
