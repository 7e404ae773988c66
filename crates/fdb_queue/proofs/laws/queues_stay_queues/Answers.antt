use Rattle.fdb_queue.proofs.Admitting.{IsQueue-admitted}
use Rattle.fdb_queue.proofs.Leaving.{IsQueue-after_window}
use Rattle.fdb_queue.proofs.laws.queues_stay_queues.Goals as goal

pub returns-clause-admitted : goal.returns-clause-admitted
returns-clause-admitted g c = IsQueue-admitted

pub returns-clause-window : goal.returns-clause-window
returns-clause-window g c = IsQueue-after_window
