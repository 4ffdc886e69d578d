use Rattle.std.proofs.Common.{◌≡◌, ◌≤◌, drop}
use Rattle.sql_reader_session.specs.Numbers.{number_after}
use Rattle.sql_reader_session.proofs.numbers.read_digits.Given as goal

-- what the digits so far and those to come write
abbrev pub invariant-loop-digit : goal.invariant-loop-digit
invariant-loop-digit l = record {
  whole : number_after l.number (drop l.digit-index l.digits) ≡ number_after 0 l.digits;
  within : l.number ≤ 2147483647;
}
