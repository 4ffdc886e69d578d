use Rattle.std.proofs.Common.{Some, None, ap, sym, ◌∙◌}
use Rattle.cat_core.specs.Objects.{Objects}
use Rattle.cat_core.specs.Steps.{CatalogState, entry_in, with_entry}
use Rattle.cat_core.proofs.Backs.{back, same}
use Rattle.cat_core.proofs.catalog.Catalog.drop_entry.Goals as goal

pub returns-in-Some-clause-back : goal.returns-in-Some-clause-back
returns-in-Some-clause-back c = λ other.
    ap (λ (s : Objects). entry_in (with_entry c.args.id (Some c.in-Some.was) s.slots) other) c.give.ensures.given
    ∙ back c.args.id (Some c.in-Some.was) None c.self.inside.objects.slots (sym c.in-Some.ensures.was) other
    ∙ ap (λ (s : CatalogState). entry_in s.slots other) c.self.view_is

pub returns-in-None-clause-back : goal.returns-in-None-clause-back
returns-in-None-clause-back c = λ other.
    ap (λ (s : Objects). entry_in s.slots other) c.give.ensures.given
    ∙ same c.args.id None c.self.inside.objects.slots (sym c.in-None.ensures.was) other
    ∙ ap (λ (s : CatalogState). entry_in s.slots other) c.self.view_is
