use Rattle.std.proofs.Common.{◌≡◌, ◌++◌, drop}
use Rattle.result_text.specs.Messages.{filled}
use Rattle.result_text.proofs.errors.append_filled.Given as goal

-- what was appended, with what is to come
abbrev pub invariant-loop-byte : goal.invariant-loop-byte
invariant-loop-byte l = l.out.items ++ filled (drop l.byte-index l.template) l.left ≡ l.fn.out.items ++ filled l.template l.arguments
