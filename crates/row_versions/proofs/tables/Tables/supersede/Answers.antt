use Rattle.std.proofs.Common.{refl, ◌∙◌}
use Rattle.std.proofs.lemmas.Result.{on_ok_weaker, on_err_weaker}
use Rattle.row_versions.specs.Versions.{superseded}
use Rattle.row_versions.proofs.Places.{put_is, in_place_same}
use Rattle.row_versions.proofs.tables.Tables.supersede.Goals as goal

pub returns-clause-ok : goal.returns-clause-ok
returns-clause-ok c =
    on_ok_weaker c.supersede-result.result (λ e. put_is (superseded c.args.row c.args.moment) c.args.self.now c.take-slot.new.self c.put.new.self c.args.place c.take-slot.result c.supersede-result.new.self c.take-slot.ensures.versions c.take-slot.ensures.empty e c.put.ensures) c.supersede-result.ensures.ok

pub returns-clause-err : goal.returns-clause-err
returns-clause-err c =
    on_err_weaker c.supersede-result.result (λ e. put_is (λ versions. versions) c.args.self.now c.take-slot.new.self c.put.new.self c.args.place c.take-slot.result c.supersede-result.new.self c.take-slot.ensures.versions c.take-slot.ensures.empty e c.put.ensures ∙ in_place_same (λ versions. versions) c.args.self.now c.args.place refl) c.supersede-result.ensures.err
