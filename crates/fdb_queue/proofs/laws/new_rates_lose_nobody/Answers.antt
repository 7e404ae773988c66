use Rattle.fdb_queue.proofs.Rerating.{nobody_lost, batch_alone, few_away, none_for_higher, IsQueue-under_rates}
use Rattle.fdb_queue.proofs.laws.new_rates_lose_nobody.Goals as goal

pub returns-clause-nobody : goal.returns-clause-nobody
returns-clause-nobody g c = nobody_lost

pub returns-clause-batch : goal.returns-clause-batch
returns-clause-batch g c = batch_alone

pub returns-clause-few : goal.returns-clause-few
returns-clause-few g c = few_away

pub returns-clause-higher : goal.returns-clause-higher
returns-clause-higher g c = none_for_higher

pub returns-clause-queue : goal.returns-clause-queue
returns-clause-queue g c queue normal batch = IsQueue-under_rates normal batch queue
