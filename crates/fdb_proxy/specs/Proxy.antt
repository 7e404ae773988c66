-- A GRV proxy, as contracts see it. (this product's own)
use Rattle.std.specs.Prelude.{ℕ, List}
use Rattle.fdb_live.specs.Seen.{Sight}
use Rattle.fdb_queue.specs.declared.throttles.Throttle.{Throttle}
use Rattle.fdb_queue.specs.declared.config.QueueConfig.{QueueConfig}

-- What a proxy has seen, what its queue was made with, throttles that stand for all that were set
-- there, and the time between two of its windows, in microseconds.
pub record Proxy : Type 0 where
  pub seen : Sight
  pub config : QueueConfig
  pub throttles : List Throttle
  pub elapsed : ℕ
