-- How long the first request of the row waits. (this product's own)
use Rattle.std.specs.Prelude.{◌≡◌, ℕ, zero, suc, ◌<◌, ◌≤◌, [], length}
use Rattle.fdb_history.specs.declared.log.Priority.{Priority}
use Rattle.fdb_history.specs.declared.log.Priority.TheVariants.{System, Default, Batch}
use Rattle.fdb_queue.specs.declared.config.QueueConfig.{QueueConfig}
use Rattle.fdb_queue.specs.declared.config.TheConstants.{MAX_COUNT}
use Rattle.fdb_queue.specs.Queue.{Queue}
use Rattle.fdb_queue.specs.Window.{window, after_window}

-- The queue after some windows of one length, with no offer between them.
abbrev pub after_windows : {T : Type 0} → ℕ → ℕ → Queue T → Queue T
after_windows elapsed zero queue = queue
after_windows elapsed (suc count) queue = after_windows elapsed count (after_window elapsed queue)

-- So many windows start nothing, and the next one starts something.
pub record StartsAfter {T : Type 0} (elapsed : ℕ) (queue : Queue T) (count : ℕ) : Type 0 where
  pub idle : (before : ℕ) → before < count → window (after_windows elapsed before queue) ≡ []
  pub starts : 0 < length (window (after_windows elapsed count queue))

-- Whether a request that is first in the row waits for its own rate alone, and so is sure to start:
-- a default one of an admitted count, and a batch one that the normal rate never holds, where its
-- own limit is not 0.
abbrev pub IsSure : QueueConfig → Priority → ℕ → Type 0
IsSure config System count = ⊥
IsSure config Default count = count ≤ MAX_COUNT
IsSure config Batch count = (count ≤ config.normal) × (1 ≤ config.batch)

-- the limit of the rate that it waits for
abbrev pub limit_of : QueueConfig → Priority → ℕ
limit_of config System = 0
limit_of config Default = config.normal
limit_of config Batch = config.batch
