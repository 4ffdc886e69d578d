use Rattle.std.proofs.Common.{rules}
use Rattle.portals.specs.Courses.{course_of}
use Rattle.portals.specs.Walks.{Counts}
use Rattle.portals.proofs.Fits.{one-fits}
use Rattle.portals.proofs.Maps.{does-one, does-none}
use Rattle.portals.proofs.portals.Portals.shift.Goals as goal

pub shift-requires : goal.shift-requires
shift-requires g c = record { fits = one-fits _ c.args.self.now.cursors c.in-Some.at c.in-Some-get_index_mut.cursor.now c.requires.fits (search rules) }

pub returns : goal.returns
returns g c = record {
  moves = does-one (λ old outcome new. Counts (λ feed. g.F.RowFeed.rest feed c.args.place.now) c.args.name.now (course_of c.args.motion) old outcome new) c.args.name.now c.self.inside.cursors c.self.inside.ended.items c.args.self.now c.in-Some.at c.in-Some-get_index_mut.cursor.now c.shift.new.self c.shift.result c.self.view_is (search rules) (search rules) c.shift.ensures.counts;
}

pub returns-in_default : goal.returns-in_default
returns-in_default g c = record {
  moves = does-none (λ old outcome new. Counts (λ feed. g.F.RowFeed.rest feed c.args.place.now) c.args.name.now (course_of c.args.motion) old outcome new) c.args.name.now c.self.inside.cursors c.self.inside.ended.items c.args.self.now c.refusal_naming.result c.self.view_is (search rules) (search rules);
}
