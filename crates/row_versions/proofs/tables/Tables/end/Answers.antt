use Rattle.row_versions.specs.Versions.{ended}
use Rattle.row_versions.proofs.Places.{put_is}
use Rattle.row_versions.proofs.tables.Tables.end.Goals as goal

pub returns : goal.returns
returns c = put_is (ended c.args.moment) c.args.self.now c.take-slot.new.self c.put.new.self c.args.place c.take-slot.result c.end.new.self c.take-slot.ensures.versions c.take-slot.ensures.empty c.end.ensures c.put.ensures
