use Rattle.std.proofs.Common.{◌≡◌, true, false, None, Some, if◌then◌else◌, not, find, sym, ap, ◌∙◌, rules}
use Rattle.std.specs.Option.{option_copied}
use Rattle.std.specs.Ordering.{is_eq}
use Rattle.row_index.specs.Cuts.{is_before}
use Rattle.row_index.specs.Ranges.{key_side, next_of}
use Rattle.row_index.proofs.index.Index.first_of.Goals as goal

pub returns-in_err-next-clause-first : goal.returns-in_err-next-clause-first
returns-in_err-next-clause-first c =
    let none : option_copied c.from_residual.result ≡ None = search rules in
    none
    ∙ ap (next_of c.args.range.now) c.in_err-next.ensures.first
    ∙ ap (λ xs. next_of c.args.range.now (find (λ entry. not (is_before c.args.cut.now entry)) xs)) c.self.view_is

pub returns-then-is_eq-clause-first : goal.returns-then-is_eq-clause-first
returns-then-is_eq-clause-first c =
    let within : is_eq (key_side c.args.range.now c.in_ok-next.next.now.key) ≡ true = search rules in
    sym (ap (λ b. if b then Some c.in_ok-next.next.now else None) within)
    ∙ ap (next_of c.args.range.now) c.in_ok-next.ensures.first
    ∙ ap (λ xs. next_of c.args.range.now (find (λ entry. not (is_before c.args.cut.now entry)) xs)) c.self.view_is

pub returns-else-is_eq-clause-first : goal.returns-else-is_eq-clause-first
returns-else-is_eq-clause-first c =
    let beyond : is_eq (key_side c.args.range.now c.in_ok-next.next.now.key) ≡ false = search rules in
    sym (ap (λ b. if b then Some c.in_ok-next.next.now else None) beyond)
    ∙ ap (next_of c.args.range.now) c.in_ok-next.ensures.first
    ∙ ap (λ xs. next_of c.args.range.now (find (λ entry. not (is_before c.args.cut.now entry)) xs)) c.self.view_is
