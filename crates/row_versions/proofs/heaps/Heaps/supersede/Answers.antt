use Rattle.std.proofs.Common.{◌∷◌, [], ◌++◌, List, cond, reverse, sym, ap, ◌∙◌, subst}
use Rattle.std.specs.Prelude.{IsSome}
use Rattle.row_versions.specs.declared.heaps.Change.{Change}
use Rattle.row_versions.specs.declared.slot.Deed.TheVariants.{Superseded}
use Rattle.row_versions.specs.declared.tables.Place.{Place}
use Rattle.row_versions.specs.Versions.{superseded}
use Rattle.row_versions.specs.Stored.{in_place}
use Rattle.row_versions.specs.State.{State, shown, Supersedes}
use Rattle.row_versions.proofs.Noted.{Told, live_there, sound_told_superseded, supersedes_told}
use Rattle.row_versions.proofs.heaps.Heaps.supersede.Goals as goal

pub invariant_of-self-2 : goal.invariant_of-self-2
invariant_of-self-2 c =
    let i = c.self.inside in
    let place : Place = record { table = c.in-Some.table; slot = c.args.slot.0 } in
    let state : State = record { tables = i.tables; newest = i.moment; pins = i.pins.items; log = reverse i.log.items } in
    let added = sym c.in-Some.ensures in
    let was = live_there c.args.table place state i.live i.stale.items c.self.invariant added (subst (λ (s : State). IsSome (shown s c.args.table c.args.slot.0 s.newest)) (sym c.self.view_is) c.requires) in
    let told : Told place Superseded c.supersede.new.self c.push_reserved.new.self.items c.note.new.stale.items c.is_settled-was_settled.result i.tables (in_place place (superseded c.args.row i.moment) i.tables) i.moment i.log.items i.stale.items = record {
      tables_is = c.in_ok-supersede.ensures.ok;
      log_is = c.push_reserved.ensures.items ∙ ap (λ (l : List Change). l ++ record { place = place; deed = Superseded; moment = i.moment } ∷ []) c.in_ok-reserve.ensures.items;
      settled_is = c.is_settled-was_settled.ensures;
      stale_is = c.note.ensures ∙ ap (λ (l : List Place). cond c.is_settled-was_settled.result (l ++ place ∷ []) l) c.in_ok-reserve-2.ensures.items;
    } in
    sound_told_superseded c.args.row place c.supersede.new.self c.push_reserved.new.self.items c.note.new.stale.items c.is_settled-was_settled.result i.tables i.moment i.live i.pins.items i.log.items i.stale.items told c.self.invariant was

pub returns : goal.returns
returns c =
    let i = c.self.inside in
    let place : Place = record { table = c.in-Some.table; slot = c.args.slot.0 } in
    let state : State = record { tables = i.tables; newest = i.moment; pins = i.pins.items; log = reverse i.log.items } in
    let added = sym c.in-Some.ensures in
    let was = live_there c.args.table place state i.live i.stale.items c.self.invariant added (subst (λ (s : State). IsSome (shown s c.args.table c.args.slot.0 s.newest)) (sym c.self.view_is) c.requires) in
    let told : Told place Superseded c.supersede.new.self c.push_reserved.new.self.items c.note.new.stale.items c.is_settled-was_settled.result i.tables (in_place place (superseded c.args.row i.moment) i.tables) i.moment i.log.items i.stale.items = record {
      tables_is = c.in_ok-supersede.ensures.ok;
      log_is = c.push_reserved.ensures.items ∙ ap (λ (l : List Change). l ++ record { place = place; deed = Superseded; moment = i.moment } ∷ []) c.in_ok-reserve.ensures.items;
      settled_is = c.is_settled-was_settled.ensures;
      stale_is = c.note.ensures ∙ ap (λ (l : List Place). cond c.is_settled-was_settled.result (l ++ place ∷ []) l) c.in_ok-reserve-2.ensures.items;
    } in
    let new : State = record { tables = c.supersede.new.self; newest = i.moment; pins = i.pins.items; log = reverse c.push_reserved.new.self.items } in
    subst (λ (old : State). Supersedes c.args.table c.args.slot.0 c.args.row old new) c.self.view_is (supersedes_told c.args.row c.args.table place c.supersede.new.self c.push_reserved.new.self.items c.note.new.stale.items c.is_settled-was_settled.result i.tables i.moment i.live i.pins.items i.log.items i.stale.items told c.self.invariant added was)
