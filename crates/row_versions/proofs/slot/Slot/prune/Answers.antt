use Rattle.std.proofs.Common.{◌≡◌, Bool, true, false, not, cond, Option, Some, None, [], ◌∷◌, refl, sym, ap, ◌∙◌}
use Rattle.std.specs.List.{filter}
use Rattle.std.specs.Option.{option_to_list}
use Rattle.row_versions.specs.Versions.{is_needed}
use Rattle.row_versions.proofs.Kept.{filter-stays, filter-goes}
use Rattle.row_versions.proofs.slot.Slot.prune.Goals as goal
use Rattle.row_versions.proofs.slot.Slot.prune.Goals.{in-None, in-Some, in-None-1, in-Some-1}
use Rattle.row_versions.specs.declared.slot.Slot.TheInside.{Inside}

true-false : true ≡ false → ⊥
true-false e = cc

not-true : (b d : Bool) → d ≡ not b → d ≡ true → b ≡ false
not-true true d e f = cc
not-true false d e f = refl

not-false : (b d : Bool) → d ≡ not b → d ≡ false → b ≡ true
not-false true d e f = refl
not-false false d e f = cc

stays-none : {A : Type 0} (p : A → Bool) (o : Option A) → o ≡ None → filter p (option_to_list o) ≡ option_to_list o
stays-none p None e = refl
stays-none p (Some x) e = cc

stays-some : {A : Type 0} (p : A → Bool) (o : Option A) (x : A) → o ≡ Some x → p x ≡ true → filter p (option_to_list o) ≡ option_to_list o
stays-some p o x e t = ap (λ q. filter p (option_to_list q)) e ∙ ap (λ b. cond b (x ∷ []) []) t ∙ ap option_to_list (sym e)

pub returns-then-is_dead : goal.returns-then-is_dead
returns-then-is_dead c =
    let snaps = c.args.newest ∷ c.args.pins.now in
    elim c.match-self.branch [
      | in-None w ↦ absurd (true-false (sym c.if-is_dead.true ∙ w.is_dead-is))
      | in-Some w ↦
          let gone = not-true _ _ w.is_dead-is c.if-is_dead.true in
          let e = filter-goes (is_needed snaps) c.self.inside.newest w.in-Some.version c.pop.result c.self.inside.older.items c.pop.new.self.items w.in-Some.is (sym w.is_needed.ensures ∙ gone) (sym c.retain_needed.ensures ∙ ap (λ (i : Inside). i.older.items) (sym w.self-inside-is) ∙ c.pop.ensures.items) in
          elim c.match-self-pop.branch [ in-Some-1 v ↦ rw (v.self-is, ← c.self.view_is) (sym e) | in-None-1 v ↦ rw (v.self-is, ← c.self.view_is) (sym e) ]
    ]

pub returns-else-is_dead : goal.returns-else-is_dead
returns-else-is_dead c =
    let snaps = c.args.newest ∷ c.args.pins.now in
    elim c.match-self.branch [
      | in-None w ↦
          let e = filter-stays (is_needed snaps) c.self.inside.newest c.self.inside.older.items c.retain_needed.new.versions.items (stays-none (is_needed snaps) _ w.in-None.is) c.retain_needed.ensures in
          rw (w.self-inside-is, ← c.self.view_is) (sym e)
      | in-Some w ↦
          let needed = not-false _ _ w.is_dead-is c.if-is_dead.false in
          let e = filter-stays (is_needed snaps) c.self.inside.newest c.self.inside.older.items c.retain_needed.new.versions.items (stays-some (is_needed snaps) _ _ w.in-Some.is (sym w.is_needed.ensures ∙ needed)) c.retain_needed.ensures in
          rw (w.self-inside-is, ← c.self.view_is) (sym e)
    ]
