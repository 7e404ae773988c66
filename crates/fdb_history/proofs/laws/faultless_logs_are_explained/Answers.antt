use Rattle.fdb_history.proofs.faultless.Explained.{linear}
use Rattle.fdb_history.proofs.laws.faultless_logs_are_explained.Goals as goal

pub returns : goal.returns
returns c = linear
