use Rattle.row_versions.proofs.heaps.tests.change_and_go_back.Goals as goal

pub rollback_to-requires-clause-stands : goal.rollback_to-requires-clause-stands
rollback_to-requires-clause-stands g c =
    let mark = c.mark-mark.result in
    let after_put = c.in_ok-put.ensures mark c.mark-mark.ensures.stands in
    let after_delete = c.in_ok-delete.ensures mark after_put.stands in
    let after_replace = c.in_ok-replace.ensures mark after_delete.stands in
    let after_advance = c.advance-changed.ensures.marks mark after_replace.stands in
    after_advance.stands
