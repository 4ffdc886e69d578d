use Rattle.row_versions.specs.Versions.{taken_back}
use Rattle.row_versions.proofs.Places.{put_is}
use Rattle.row_versions.proofs.tables.Tables.take_back.Goals as goal

pub returns : goal.returns
returns c = put_is (taken_back c.args.deed) c.args.self.now c.take-slot.new.self c.put.new.self c.args.place c.take-slot.result c.take_back.new.self c.take-slot.ensures.versions c.take-slot.ensures.empty c.take_back.ensures c.put.ensures
