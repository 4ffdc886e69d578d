use Rattle.std.proofs.Common.{◌≡◌, false, Some, find, ap, ◌∙◌, rules}
use Rattle.std.specs.Option.{option_copied}
use Rattle.std.specs.Ordering.{is_lt}
use Rattle.row_index.specs.declared.entries.IndexPlace.{IndexPlace}
use Rattle.row_index.specs.Ranges.{is_next, key_side}
use Rattle.row_index.proofs.Cuts.{IsEarly, next_first, next_past}
use Rattle.row_index.proofs.Walks.{walked}
use Rattle.row_index.proofs.index.Index.after.Goals as goal
use Rattle.row_index.proofs.index.Index.after.Goals.{in_default-via-in-Some+else-not-is_lt, in_default-via-in_default}

pub returns-in-Some-clause-first : goal.returns-in-Some-clause-first
returns-in-Some-clause-first c =
    let within : is_lt (key_side c.args.range.now c.in-Some.last.now.key) ≡ false = search rules in
    let given : Some c.in-Some.last.now ≡ option_copied c.args.last = search rules in
    c.first_of.ensures.first
    ∙ next_past (c.orders.ensures.sorts false false) c.args.range.now c.new.result (ap (λ (last : IndexPlace). is_lt (key_side c.args.range.now last.key)) c.new.ensures ∙ within) c.args.self.now c.first_of.ensures.ascending
    ∙ ap (λ last. find (is_next c.args.range.now last) c.args.self.now) (ap Some c.new.ensures ∙ given)

pub returns-in_default-clause-first : goal.returns-in_default-clause-first
returns-in_default-clause-first c =
    let early : IsEarly c.args.range.now (option_copied c.args.last) = elim c.in_default.branch [ in_default-via-in-Some+else-not-is_lt w ↦ search rules | in_default-via-in_default w ↦ search rules ] in
    c.first_of-in_default.ensures.first
    ∙ next_first (c.orders.ensures.sorts false false) c.args.range.now (option_copied c.args.last) early c.args.self.now c.first_of-in_default.ensures.ascending

pub returns-in-Some-clause-rest : goal.returns-in-Some-clause-rest
returns-in-Some-clause-rest c =
    walked (c.orders.ensures.sorts false false) c.args.range.now (option_copied c.args.last) c.args.self.now c.first_of.ensures.ascending (option_copied c.first_of.result) (returns-in-Some-clause-first c)

pub returns-in_default-clause-rest : goal.returns-in_default-clause-rest
returns-in_default-clause-rest c =
    walked (c.orders.ensures.sorts false false) c.args.range.now (option_copied c.args.last) c.args.self.now c.first_of-in_default.ensures.ascending (option_copied c.first_of-in_default.result) (returns-in_default-clause-first c)
