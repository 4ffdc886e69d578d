use Rattle.std.proofs.Common.{rules}
use Rattle.portals.proofs.Walking.{back-stops, walks-on}
use Rattle.portals.proofs.cursor.Cursor.walk.Goals as goal

pub returns-then-refuses-clause-walks : goal.returns-then-refuses-clause-walks
returns-then-refuses-clause-walks g c =
    back-stops (λ feed. g.F.RowFeed.rest feed c.args.place.now) c.args.name.now c.args.course c.args.fetching c.args.self.now c.refuses.ensures.sound (search rules) c.refusal.result c.fail.new.self (search rules) c.refusal.ensures c.fail.ensures

pub returns-clause-walks : goal.returns-clause-walks
returns-clause-walks g c =
    walks-on (λ feed. g.F.RowFeed.rest feed c.args.place.now) c.args.name.now c.args.course c.args.fetching c.args.self.now c.refuses.ensures.sound (search rules) c.pull_to.new.self c.arrive.new.self c.arrive.result (search rules) c.arrive.ensures.sound (search rules) c.arrive.ensures.places c.arrive.ensures.position
