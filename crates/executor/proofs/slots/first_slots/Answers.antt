use Rattle.std.proofs.Common.{subst, ◌≡◌, [], drop}
use Rattle.std.proofs.lemmas.Result.{IfOk-weaker}
use Rattle.row_versions.specs.Stored.{slots_of}
use Rattle.executor.specs.declared.scan.SeqState.{SeqState}
use Rattle.executor.specs.Scans.{seq_left}
use Rattle.executor.specs.Slots.{slots_from}
use Rattle.executor.proofs.Ascending.{scanned_ascending}
use Rattle.executor.proofs.slots.first_slots.Goals as goal

pub returns : goal.returns
returns c = IfOk-weaker c.seq_slots.result _ _ (λ slots is. scanned_ascending c.args.scan.now.conds c.args.params.now c.args.snap 0 (drop 0 (slots_of c.args.scan.now.table c.args.stores.now.heaps.tables)) slots (subst (λ (seq : SeqState). slots ≡ slots_from [] (seq_left c.args.stores.now c.args.snap c.args.params.now seq)) c.in_ok-seq_started.ensures is)) c.seq_slots.ensures
