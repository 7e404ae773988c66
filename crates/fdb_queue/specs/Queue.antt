-- The queue of a GRV proxy, as contracts see it. (this product's own)
use Rattle.std.specs.Prelude.{List, []}
use Rattle.fdb_queue.specs.Waiting.{Requests, nothing}
use Rattle.fdb_queue.specs.declared.window.Budgets.{Budgets}
use Rattle.fdb_queue.specs.declared.config.QueueConfig.{QueueConfig}
use Rattle.fdb_queue.specs.declared.throttles.Throttle.{Throttle}

-- A queue: its capacity and the rates that stand, the requests that wait, the budgets, and
-- throttles that stand for all that were set and not forgotten.
pub record Queue (T : Type 0) : Type 0 where
  pub config : QueueConfig
  pub waiting : Requests T
  pub budgets : Budgets
  pub throttles : List Throttle

-- A queue in which nothing waits, with no budget and no throttle.
abbrev pub new_queue : {T : Type 0} → QueueConfig → Queue T
new_queue config =
    record {
      config = config;
      waiting = nothing;
      budgets = record { normal = 0; batch = 0 };
      throttles = [];
    }
