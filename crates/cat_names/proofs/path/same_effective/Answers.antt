use Rattle.std.proofs.Common.{◌∙◌, drop, suc, sym, ap, subst, arith}
use Rattle.cat_names.specs.Paths as spec
use Rattle.cat_names.proofs.Prefixes.{from_place, not_same}
use Rattle.cat_names.proofs.path.same_effective.Goals as goal

pub returns-in-None : goal.returns-in-None
returns-in-None c = (
  λ no. grind arith,
  λ same. absurd (not_same c.args.schemas.now c.as_slice-kept.result.now c.loop-name.count c.name-item.result (drop (suc c.loop-name.name-index) c.args.path.now) c.loop-name.invariant.met (subst (λ s. spec.Differs c.as_slice-kept.result.now c.loop-name.count s) (c.schema_named.ensures ∙ ap (λ name. spec.schema_named c.args.schemas.now name) c.as_str.ensures) c.in-None.ensures) (sym (from_place c.args.schemas.now _ c.args.path.now c.loop-name.name-index c.name-item.result c.loop-name-test.true c.name-item.is) ∙ c.loop-name.invariant.same ∙ same ∙ sym c.as_slice-kept.ensures)),
)
