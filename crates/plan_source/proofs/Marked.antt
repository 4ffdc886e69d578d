use Rattle.std.proofs.Common.{◌≡◌, ◌≢◌, ◌∙◌, refl, sym, subst, Option, Some, None}
use Rattle.std.specs.Prelude.{IsSome}
use Rattle.std.specs.Option.{option_map}
use Rattle.plan_invalid.specs.declared.source.Source.{Source}
use Rattle.plan_invalid.specs.declared.source.SourceId.{SourceId}
use Rattle.plan_invalid.specs.Sources.{Sources, Changes, marked}

-- an id that names another source, and then another one
pub changes_again : (a b c : Sources) (id : SourceId) (first second : Option Source) → Changes a b id first → Changes b c id second → Changes a c id second
changes_again a b c id first second one two = record {
  changed = two.changed;
  others = λ other ne. two.others other ne ∙ one.others other ne;
}

-- a source that is marked is still there
pub still_some : (before after : Option Source) → after ≡ option_map marked before → IsSome before → IsSome after
still_some None after same some = absurd (cc)
still_some (Some source) after same some = subst IsSome (sym same) refl
