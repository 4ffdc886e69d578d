use Rattle.std.proofs.Common.{Some, None, ap, sym, ◌∙◌}
use Rattle.cat_core.specs.Objects.{Objects}
use Rattle.cat_core.specs.Steps.{CatalogState, entry_in, with_entry}
use Rattle.cat_core.proofs.Backs.{back}
use Rattle.cat_core.proofs.catalog.Catalog.replace.Goals as goal

pub returns-in-Some : goal.returns-in-Some
returns-in-Some c = λ other.
    ap (λ (s : Objects). entry_in (with_entry c.args.id (Some c.in-Some.was) s.slots) other) c.give.ensures.given
    ∙ back c.args.id (Some c.in-Some.was) (Some c.args.entry) c.self.inside.objects.slots (sym c.in-Some.ensures.was) other
    ∙ ap (λ (s : CatalogState). entry_in s.slots other) c.self.view_is

pub returns-in-None : goal.returns-in-None
returns-in-None c = λ other.
    ap (λ (s : Objects). entry_in s.slots other) c.give-entry.ensures.given
    ∙ ap (λ (s : Objects). entry_in (with_entry c.args.id None s.slots) other) c.give.ensures.given
    ∙ back c.args.id None (Some c.args.entry) c.self.inside.objects.slots (sym c.in-None.ensures.was) other
    ∙ ap (λ (s : CatalogState). entry_in s.slots other) c.self.view_is
