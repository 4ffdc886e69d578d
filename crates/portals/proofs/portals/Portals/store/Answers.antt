use Rattle.std.proofs.Common.{rules, sym, subst}
use Rattle.portals.specs.Cursors.{AllFit}
use Rattle.portals.proofs.Fits.{one-fits, ok-set}
use Rattle.portals.proofs.portals.Portals.store.Goals as goal

pub store-requires : goal.store-requires
store-requires g c = record { fits = one-fits _ c.args.self.now.cursors c.args.at c.in-Some.cursor.now c.requires.fits (search rules) }

pub returns : goal.returns
returns g c = record {
  fits = ok-set (λ feed. g.F.RowFeed.fits feed c.args.place.now) c.self.inside.cursors c.args.at c.store.new.self c.store.result (subst (λ s. AllFit (λ feed. g.F.RowFeed.fits feed c.args.place.now) s.cursors) (sym c.self.view_is) c.requires.fits) c.store.ensures.fits;
}

pub returns-in_default : goal.returns-in_default
returns-in_default g c = record {
  fits = subst (λ s. AllFit (λ feed. g.F.RowFeed.fits feed c.args.place.now) s.cursors) (sym c.self.view_is) c.requires.fits;
}
