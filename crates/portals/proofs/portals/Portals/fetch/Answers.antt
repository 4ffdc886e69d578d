use Rattle.std.proofs.Common.{rules}
use Rattle.portals.specs.Courses.{course_of}
use Rattle.portals.specs.Walks.{Fetches}
use Rattle.portals.proofs.Fits.{one-fits}
use Rattle.portals.proofs.Maps.{does-one, does-none}
use Rattle.portals.proofs.portals.Portals.fetch.Goals as goal

pub fetch-requires : goal.fetch-requires
fetch-requires g c = record { fits = one-fits _ c.args.self.now.cursors c.in-Some.at c.in-Some-get_index_mut.cursor.now c.requires.fits (search rules) }

pub returns : goal.returns
returns g c = record {
  moves = does-one (λ old outcome new. Fetches (λ feed. g.F.RowFeed.rest feed c.args.place.now) c.args.name.now (course_of c.args.motion) old outcome new) c.args.name.now c.self.inside.cursors c.self.inside.ended.items c.args.self.now c.in-Some.at c.in-Some-get_index_mut.cursor.now c.fetch.new.self c.fetch.result c.self.view_is (search rules) (search rules) c.fetch.ensures.fetches;
}

pub returns-in_default : goal.returns-in_default
returns-in_default g c = record {
  moves = does-none (λ old outcome new. Fetches (λ feed. g.F.RowFeed.rest feed c.args.place.now) c.args.name.now (course_of c.args.motion) old outcome new) c.args.name.now c.self.inside.cursors c.self.inside.ended.items c.args.self.now c.refusal_naming.result c.self.view_is (search rules) (search rules);
}
