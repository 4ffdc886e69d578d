use Rattle.std.proofs.Common.{◌≡◌, ◌∷◌, [], ◌++◌, List, reverse, refl, sym, ap, ◌∙◌, subst, arith}
use Rattle.row_versions.specs.declared.heaps.Change.{Change}
use Rattle.row_versions.specs.declared.slot.Deed.TheVariants.{Inserted}
use Rattle.row_versions.specs.declared.tables.Place.{Place}
use Rattle.row_versions.specs.Stored.{with_slot}
use Rattle.row_versions.specs.State.{State, live_rows, Inserts}
use Rattle.row_versions.proofs.LiveRows.{live_rows_is}
use Rattle.row_versions.proofs.Noted.{sound_told_inserted, inserts_told}
use Rattle.row_versions.proofs.heaps.Heaps.insert.Goals as goal

pub returns-then-self-ge-MOST_LIVE_ROWS-clause-cases :
    goal.returns-then-self-ge-MOST_LIVE_ROWS-clause-cases
returns-then-self-ge-MOST_LIVE_ROWS-clause-cases c =
    let i = c.self.inside in
    let state : State = record { tables = i.tables; newest = i.moment; pins = i.pins.items; log = reverse i.log.items } in
    let live_is : live_rows c.args.self.now ≡ i.live = ap live_rows (sym c.self.view_is) ∙ live_rows_is state c.self.invariant.dated ∙ sym c.self.invariant.counted in
    rw c.refusal.ensures (refl, omega arith, refl)

pub returns-in_err-reserve-clause-full : goal.returns-in_err-reserve-clause-full
returns-in_err-reserve-clause-full c =
    let i = c.self.inside in
    let state : State = record { tables = i.tables; newest = i.moment; pins = i.pins.items; log = reverse i.log.items } in
    let live_is : live_rows c.args.self.now ≡ i.live = ap live_rows (sym c.self.view_is) ∙ live_rows_is state c.self.invariant.dated ∙ sym c.self.invariant.counted in
    λ full. absurd (omega arith)

pub returns-in_err-push-clause-full : goal.returns-in_err-push-clause-full
returns-in_err-push-clause-full c =
    let i = c.self.inside in
    let state : State = record { tables = i.tables; newest = i.moment; pins = i.pins.items; log = reverse i.log.items } in
    let live_is : live_rows c.args.self.now ≡ i.live = ap live_rows (sym c.self.view_is) ∙ live_rows_is state c.self.invariant.dated ∙ sym c.self.invariant.counted in
    λ full. absurd (omega arith)

pub invariant_of-self-2 : goal.invariant_of-self-2
invariant_of-self-2 c =
    let i = c.self.inside in
    let place : Place = record { table = c.in-Some.table; slot = c.len_of-slot.result } in
    let tables_is = c.in_ok-push.ensures.ok ∙ ap (λ versions. with_slot place.table versions i.tables) c.new.ensures in
    let log_is = c.push_reserved.ensures.items ∙ ap (λ (l : List Change). l ++ record { place = place; deed = Inserted; moment = i.moment } ∷ []) c.in_ok-reserve.ensures.items in
    sound_told_inserted c.args.row c.args.table place c.push.new.self c.push_reserved.new.self.items i.tables i.moment i.live i.pins.items i.log.items i.stale.items tables_is log_is c.self.invariant (sym c.in-Some.ensures) c.len_of-slot.ensures (omega arith)

pub returns-clause-cases : goal.returns-clause-cases
returns-clause-cases c =
    let i = c.self.inside in
    let state : State = record { tables = i.tables; newest = i.moment; pins = i.pins.items; log = reverse i.log.items } in
    let live_is : live_rows c.args.self.now ≡ i.live = ap live_rows (sym c.self.view_is) ∙ live_rows_is state c.self.invariant.dated ∙ sym c.self.invariant.counted in
    let place : Place = record { table = c.in-Some.table; slot = c.len_of-slot.result } in
    let tables_is = c.in_ok-push.ensures.ok ∙ ap (λ versions. with_slot place.table versions i.tables) c.new.ensures in
    let log_is = c.push_reserved.ensures.items ∙ ap (λ (l : List Change). l ++ record { place = place; deed = Inserted; moment = i.moment } ∷ []) c.in_ok-reserve.ensures.items in
    let new : State = record { tables = c.push.new.self; newest = i.moment; pins = i.pins.items; log = reverse c.push_reserved.new.self.items } in
    (omega arith, subst (λ (old : State). Inserts c.args.table place.slot c.args.row old new) c.self.view_is (inserts_told c.args.row c.args.table place c.push.new.self c.push_reserved.new.self.items i.tables i.moment i.live i.pins.items i.log.items i.stale.items tables_is log_is c.self.invariant (sym c.in-Some.ensures) c.len_of-slot.ensures))

pub returns-clause-full : goal.returns-clause-full
returns-clause-full c =
    let i = c.self.inside in
    let state : State = record { tables = i.tables; newest = i.moment; pins = i.pins.items; log = reverse i.log.items } in
    let live_is : live_rows c.args.self.now ≡ i.live = ap live_rows (sym c.self.view_is) ∙ live_rows_is state c.self.invariant.dated ∙ sym c.self.invariant.counted in
    λ full. absurd (omega arith)
