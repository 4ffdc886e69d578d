use Rattle.std.proofs.Common.{◌≡◌, ℕ, List, eqb, reverse, sym, ap, ◌∙◌}
use Rattle.std.specs.Prelude.{position}
use Rattle.row_versions.specs.State.{unpinned}
use Rattle.row_versions.proofs.Pins.{removed_pin, removed_none}
use Rattle.row_versions.proofs.heaps.Heaps.unpin.Goals as goal

pub returns-in-Some : goal.returns-in-Some
returns-in-Some c =
    let i = c.self.inside in
    let removed : c.remove.new.self.items ≡ unpinned c.args.pin i.pins.items = c.remove.ensures.items ∙ removed_pin i.pins.items c.pin.inside.moment c.in-Some.at (ap (position (λ p. eqb p c.pin.inside.moment)) (sym c.as_slice.ensures.value) ∙ sym c.place_of.ensures ∙ c.in-Some.is) ∙ ap (λ n. unpinned n i.pins.items) c.pin.view_is in
    rw (← c.self.view_is) (ap (λ (pins : List ℕ). record { tables = i.tables; newest = i.moment; pins = pins; log = reverse i.log.items }) removed)

pub returns-in_default : goal.returns-in_default
returns-in_default c =
    let i = c.self.inside in
    let same : unpinned c.args.pin i.pins.items ≡ i.pins.items = ap (λ n. unpinned n i.pins.items) (sym c.pin.view_is) ∙ removed_none i.pins.items c.pin.inside.moment (ap (position (λ p. eqb p c.pin.inside.moment)) (sym c.as_slice.ensures.value) ∙ sym c.place_of.ensures ∙ c.in_default.is) in
    rw (← c.self.view_is) (ap (λ (pins : List ℕ). record { tables = i.tables; newest = i.moment; pins = pins; log = reverse i.log.items }) (sym same))
