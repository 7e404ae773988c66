use Rattle.fdb_queue.proofs.Turning.{bounded}
use Rattle.fdb_queue.proofs.laws.waits_are_bounded.Goals as goal

pub returns : goal.returns
returns g c = bounded
