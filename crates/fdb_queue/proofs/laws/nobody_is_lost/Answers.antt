use Rattle.fdb_queue.proofs.Lost.{nobody}
use Rattle.fdb_queue.proofs.laws.nobody_is_lost.Goals as goal

pub returns : goal.returns
returns g c = nobody
