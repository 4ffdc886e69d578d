use Rattle.std.proofs.Common.{◌∷◌, [], ◌++◌, List, cond, reverse, sym, ap, ◌∙◌, subst, arith}
use Rattle.std.specs.Prelude.{IsSome}
use Rattle.row_versions.specs.declared.heaps.Change.{Change}
use Rattle.row_versions.specs.declared.slot.Deed.TheVariants.{Ended}
use Rattle.row_versions.specs.declared.tables.Place.{Place}
use Rattle.row_versions.specs.Versions.{ended}
use Rattle.row_versions.specs.Stored.{in_place}
use Rattle.row_versions.specs.State.{State, shown, Ends}
use Rattle.row_versions.proofs.Sounds.{live_counted}
use Rattle.row_versions.proofs.Noted.{Told, live_there, sound_told_ended, ends_told}
use Rattle.row_versions.proofs.heaps.Heaps.end.Goals as goal

pub overflow_sub-self : goal.overflow_sub-self
overflow_sub-self c =
    let i = c.self.inside in
    let place : Place = record { table = c.in-Some.table; slot = c.args.slot.0 } in
    let state : State = record { tables = i.tables; newest = i.moment; pins = i.pins.items; log = reverse i.log.items } in
    let added = sym c.in-Some.ensures in
    let was = live_there c.args.table place state i.live i.stale.items c.self.invariant added (subst (λ (s : State). IsSome (shown s c.args.table c.args.slot.0 s.newest)) (sym c.self.view_is) c.requires) in
    omega (arith, c.self.invariant.counted, live_counted place i.tables was)

pub invariant_of-self-2 : goal.invariant_of-self-2
invariant_of-self-2 c =
    let i = c.self.inside in
    let place : Place = record { table = c.in-Some.table; slot = c.args.slot.0 } in
    let state : State = record { tables = i.tables; newest = i.moment; pins = i.pins.items; log = reverse i.log.items } in
    let added = sym c.in-Some.ensures in
    let was = live_there c.args.table place state i.live i.stale.items c.self.invariant added (subst (λ (s : State). IsSome (shown s c.args.table c.args.slot.0 s.newest)) (sym c.self.view_is) c.requires) in
    let told : Told place Ended c.end.new.self c.push_reserved.new.self.items c.note.new.stale.items c.is_settled-was_settled.result i.tables (in_place place (ended i.moment) i.tables) i.moment i.log.items i.stale.items = record {
      tables_is = c.end.ensures;
      log_is = c.push_reserved.ensures.items ∙ ap (λ (l : List Change). l ++ record { place = place; deed = Ended; moment = i.moment } ∷ []) c.in_ok-reserve.ensures.items;
      settled_is = c.is_settled-was_settled.ensures;
      stale_is = c.note.ensures ∙ ap (λ (l : List Place). cond c.is_settled-was_settled.result (l ++ place ∷ []) l) c.in_ok-reserve-2.ensures.items;
    } in
    sound_told_ended place c.end.new.self c.push_reserved.new.self.items c.note.new.stale.items c.is_settled-was_settled.result i.tables i.moment i.live i.pins.items i.log.items i.stale.items told c.self.invariant was

pub returns : goal.returns
returns c =
    let i = c.self.inside in
    let place : Place = record { table = c.in-Some.table; slot = c.args.slot.0 } in
    let state : State = record { tables = i.tables; newest = i.moment; pins = i.pins.items; log = reverse i.log.items } in
    let added = sym c.in-Some.ensures in
    let was = live_there c.args.table place state i.live i.stale.items c.self.invariant added (subst (λ (s : State). IsSome (shown s c.args.table c.args.slot.0 s.newest)) (sym c.self.view_is) c.requires) in
    let told : Told place Ended c.end.new.self c.push_reserved.new.self.items c.note.new.stale.items c.is_settled-was_settled.result i.tables (in_place place (ended i.moment) i.tables) i.moment i.log.items i.stale.items = record {
      tables_is = c.end.ensures;
      log_is = c.push_reserved.ensures.items ∙ ap (λ (l : List Change). l ++ record { place = place; deed = Ended; moment = i.moment } ∷ []) c.in_ok-reserve.ensures.items;
      settled_is = c.is_settled-was_settled.ensures;
      stale_is = c.note.ensures ∙ ap (λ (l : List Place). cond c.is_settled-was_settled.result (l ++ place ∷ []) l) c.in_ok-reserve-2.ensures.items;
    } in
    let new : State = record { tables = c.end.new.self; newest = i.moment; pins = i.pins.items; log = reverse c.push_reserved.new.self.items } in
    subst (λ (old : State). Ends c.args.table c.args.slot.0 old new) c.self.view_is (ends_told c.args.table place c.end.new.self c.push_reserved.new.self.items c.note.new.stale.items c.is_settled-was_settled.result i.tables i.moment i.live i.pins.items i.log.items i.stale.items told c.self.invariant added was)
