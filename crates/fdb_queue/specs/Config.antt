-- What a queue may be made with. (this product's own)
use Rattle.std.specs.Prelude.{ℕ, ◌≤◌}
use Rattle.fdb_queue.specs.declared.config.QueueConfig.{QueueConfig}
use Rattle.fdb_queue.specs.declared.config.TheConstants.{MAX_RATE, MAX_ROOM, MAX_ELAPSED}

-- The rates and the capacity are within their limits.
pub record IsConfig (config : QueueConfig) : Type 0 where
  pub normal_some : 1 ≤ config.normal
  pub normal_in_range : config.normal ≤ MAX_RATE
  pub batch_in_range : config.batch ≤ MAX_RATE
  pub room_some : 1 ≤ config.room
  pub room_in_range : config.room ≤ MAX_ROOM

-- A time between two windows is from 1 to `MAX_ELAPSED` microseconds.
pub record IsElapsed (elapsed : ℕ) : Type 0 where
  pub some : 1 ≤ elapsed
  pub in_range : elapsed ≤ MAX_ELAPSED
