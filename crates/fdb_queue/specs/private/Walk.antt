-- How far a window has come in the row. (this product's own)
use Rattle.std.specs.Prelude.{◌+◌, ◌*◌, ◌≤◌, ◌&&◌, true, false, nat_lt, if◌then◌else◌}
use Rattle.fdb_queue.specs.Window.{may_start}
use Rattle.fdb_queue.specs.declared.window.Budgets.{Budgets}
use Rattle.fdb_queue.specs.declared.config.QueueConfig.{QueueConfig}
use Rattle.fdb_queue.specs.declared.config.TheConstants.{MAX_COUNT, MAX_STARTED}
use Rattle.fdb_queue.specs.declared.waiting.Req.{Req}
use Rattle.fdb_queue.specs.declared.window.Walk.{Walk}

-- A window has come to its next request: it starts it or ends there.
abbrev pub walk_after : {T : Type 0} → QueueConfig → Budgets → Walk → Req T → Walk
walk_after config budgets walk request =
    if walk.ended then walk
    else if nat_lt walk.requests MAX_STARTED
    && may_start config budgets request.priority (walk.transactions + request.count)
    then record {
      requests = walk.requests + 1;
      transactions = walk.transactions + request.count;
      ended = false;
    }
    else record walk { ended = true }

-- what a walk has started is within the limits
pub record IsWithinLimits (walk : Walk) : Type 0 where
  pub requests : walk.requests ≤ MAX_STARTED
  pub transactions : walk.transactions ≤ walk.requests * MAX_COUNT
