use Rattle.fdb_history.proofs.histories.Minima.{minima_within}
use Rattle.fdb_history.proofs.laws.minima_stay_within.Goals as goal

pub returns : goal.returns
returns c = minima_within
