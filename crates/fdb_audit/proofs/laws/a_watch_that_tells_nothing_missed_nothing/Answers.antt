use Rattle.fdb_audit.proofs.NothingTold.{nothing_missed}
use Rattle.fdb_audit.proofs.laws.a_watch_that_tells_nothing_missed_nothing.Goals as goal

pub returns : goal.returns
returns c = nothing_missed
