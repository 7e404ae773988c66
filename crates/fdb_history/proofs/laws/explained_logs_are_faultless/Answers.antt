use Rattle.fdb_history.proofs.explained.NoFault.{faultless}
use Rattle.fdb_history.proofs.laws.explained_logs_are_faultless.Goals as goal

pub returns : goal.returns
returns c = faultless
