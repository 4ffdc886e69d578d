use Rattle.std.proofs.Common.{◌∷◌}
use Rattle.row_versions.specs.Versions.{kept}
use Rattle.row_versions.proofs.Places.{put_is}
use Rattle.row_versions.proofs.tables.Tables.prune.Goals as goal

pub returns-clause-state : goal.returns-clause-state
returns-clause-state c = put_is (kept (c.args.newest ∷ c.args.pins.now)) c.args.self.now c.take-slot.new.self c.put.new.self c.args.place c.take-slot.result c.prune.new.self c.take-slot.ensures.versions c.take-slot.ensures.empty c.prune.ensures c.put.ensures
