use Rattle.fdb_queue.proofs.Lawful.{bounded}
use Rattle.fdb_queue.proofs.laws.windows_are_bounded.Goals as goal

pub returns : goal.returns
returns g c = bounded
