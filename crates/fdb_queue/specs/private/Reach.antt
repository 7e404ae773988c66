-- How far a window comes, by the number of requests of each list. (this product's own)
use Rattle.std.specs.Prelude.{◌≡◌, ◌+◌, ◌*◌, ◌≤◌, ◌++◌, take, length}
use Rattle.fdb_queue.specs.declared.config.TheConstants.{MAX_COUNT, MAX_STARTED}
use Rattle.fdb_queue.specs.declared.waiting.Reach.{Reach}
use Rattle.fdb_queue.specs.Queue.{Queue}
use Rattle.fdb_queue.specs.Waiting.{total}
use Rattle.fdb_queue.specs.Window.{window}

-- These are the numbers of requests that the window starts from the front of each list, and the
-- sums of their counts.
pub record IsReach {T : Type 0} (queue : Queue T) (reach : Reach) : Type 0 where
  pub system : reach.counts.system ≤ length queue.waiting.system
  pub default_ : reach.counts.default_ ≤ length queue.waiting.default_
  pub batch : reach.counts.batch ≤ length queue.waiting.batch
  pub requests : reach.counts.system + reach.counts.default_ + reach.counts.batch ≤ MAX_STARTED
  pub started : window queue ≡ take reach.counts.system queue.waiting.system
      ++ take reach.counts.default_ queue.waiting.default_
      ++ take reach.counts.batch queue.waiting.batch
  pub unbatched : reach.unbatched
      ≡ total (take reach.counts.system queue.waiting.system
      ++ take reach.counts.default_ queue.waiting.default_)
  pub all : reach.all ≡ total (window queue)
  pub unbatched_in_range : reach.unbatched ≤ MAX_STARTED * MAX_COUNT
  pub all_in_range : reach.all ≤ MAX_STARTED * MAX_COUNT
