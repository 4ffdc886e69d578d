use Rattle.session_core.proofs.Nowhere.{nowhere}
use Rattle.session_core.proofs.machine.Machine.analysed_plain.Goals as goal

pub returns-in-Err : goal.returns-in-Err
returns-in-Err g c = (nowhere, tt)
