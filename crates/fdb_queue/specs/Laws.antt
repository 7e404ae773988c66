-- Words of the laws: which list a priority has, and which priority is lower. (this product's own)
use Rattle.std.specs.Prelude.{ℕ, List}
use Rattle.fdb_history.specs.declared.log.Priority.{Priority}
use Rattle.fdb_history.specs.declared.log.Priority.TheVariants.{System, Default, Batch}
use Rattle.fdb_queue.specs.declared.waiting.Req.{Req}
use Rattle.fdb_queue.specs.Waiting.{Requests}

-- The requests that wait at a priority, the oldest first.
abbrev pub list_of : {T : Type 0} → Priority → Requests T → List (Req T)
list_of System waiting = waiting.system
list_of Default waiting = waiting.default_
list_of Batch waiting = waiting.batch

-- How high a priority is, from 0 for a batch request on.
abbrev pub rank : Priority → ℕ
rank System = 2
rank Default = 1
rank Batch = 0
