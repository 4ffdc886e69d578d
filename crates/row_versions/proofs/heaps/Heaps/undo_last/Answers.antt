use Rattle.std.proofs.Common.{◌+◌, ◌-◌, reverse, ap, ◌∙◌, arith}
use Rattle.row_versions.specs.declared.slot.Deed.TheVariants.{Inserted, Superseded, Ended}
use Rattle.row_versions.specs.State.{State, last_undone}
use Rattle.row_versions.proofs.Undone.{reverse-last, last_of, sound_of_log, sound_last, live_last}
use Rattle.row_versions.proofs.heaps.Heaps.undo_last.Goals as goal

pub overflow_sub-self : goal.overflow_sub-self
overflow_sub-self c =
    let i = c.self.inside in
    live_last c.in-Some.change i.tables i.moment i.live i.pins.items (reverse c.pop.new.self.items) i.stale.items (sound_of_log i.log.items c.pop.new.self.items c.in-Some.change i.tables i.moment i.live i.pins.items i.stale.items c.self.invariant c.in-Some.ensures.items) c.in-Inserted.is

pub invariant_of-self : goal.invariant_of-self
invariant_of-self c =
    let i = c.self.inside in
    let change = c.in-Some.change in
    let rest = reverse c.pop.new.self.items in
    let sound = sound_of_log i.log.items c.pop.new.self.items change i.tables i.moment i.live i.pins.items i.stale.items c.self.invariant c.in-Some.ensures.items in
    let is = c.take_back.ensures in
    sound_last Inserted change i.tables c.take_back.new.self i.moment i.live (i.live - 1) i.pins.items rest i.stale.items sound is c.in-Inserted.is (let some = live_last change i.tables i.moment i.live i.pins.items rest i.stale.items sound c.in-Inserted.is in omega arith)

pub returns-in-Inserted : goal.returns-in-Inserted
returns-in-Inserted c =
    let i = c.self.inside in
    let change = c.in-Some.change in
    let state : State = record { tables = i.tables; newest = i.moment; pins = i.pins.items; log = reverse i.log.items } in
    last_of state change (reverse c.pop.new.self.items) c.take_back.new.self (reverse-last i.log.items c.pop.new.self.items change c.in-Some.ensures.items) c.take_back.ensures ∙ ap last_undone c.self.view_is

pub invariant_of-self-in-Superseded : goal.invariant_of-self-in-Superseded
invariant_of-self-in-Superseded c =
    let i = c.self.inside in
    let change = c.in-Some.change in
    let rest = reverse c.pop.new.self.items in
    let sound = sound_of_log i.log.items c.pop.new.self.items change i.tables i.moment i.live i.pins.items i.stale.items c.self.invariant c.in-Some.ensures.items in
    let is = c.take_back.ensures in
    sound_last Superseded change i.tables c.take_back.new.self i.moment i.live i.live i.pins.items rest i.stale.items sound is c.in-Superseded.is (omega arith)

pub returns-in-Superseded : goal.returns-in-Superseded
returns-in-Superseded c =
    let i = c.self.inside in
    let change = c.in-Some.change in
    let state : State = record { tables = i.tables; newest = i.moment; pins = i.pins.items; log = reverse i.log.items } in
    last_of state change (reverse c.pop.new.self.items) c.take_back.new.self (reverse-last i.log.items c.pop.new.self.items change c.in-Some.ensures.items) c.take_back.ensures ∙ ap last_undone c.self.view_is

pub invariant_of-self-in-Ended : goal.invariant_of-self-in-Ended
invariant_of-self-in-Ended c =
    let i = c.self.inside in
    let change = c.in-Some.change in
    let rest = reverse c.pop.new.self.items in
    let sound = sound_of_log i.log.items c.pop.new.self.items change i.tables i.moment i.live i.pins.items i.stale.items c.self.invariant c.in-Some.ensures.items in
    let is = c.take_back.ensures in
    sound_last Ended change i.tables c.take_back.new.self i.moment i.live (i.live + 1) i.pins.items rest i.stale.items sound is c.in-Ended.is (omega arith)

pub returns-in-Ended : goal.returns-in-Ended
returns-in-Ended c =
    let i = c.self.inside in
    let change = c.in-Some.change in
    let state : State = record { tables = i.tables; newest = i.moment; pins = i.pins.items; log = reverse i.log.items } in
    last_of state change (reverse c.pop.new.self.items) c.take_back.new.self (reverse-last i.log.items c.pop.new.self.items change c.in-Some.ensures.items) c.take_back.ensures ∙ ap last_undone c.self.view_is
