-- What a queue keeps to. (this product's own)
use Rattle.std.specs.Prelude.{ℕ, ◌*◌, ◌≤◌, ◌≡◌, true, false, All, length}
use Rattle.fdb_history.specs.declared.log.Priority.{Priority}
use Rattle.fdb_history.specs.declared.log.Priority.TheVariants.{System, Default, Batch}
use Rattle.fdb_queue.specs.declared.window.Budgets.{Budgets}
use Rattle.fdb_queue.specs.declared.config.TheConstants.{MAX_BURST, RATE_WINDOW}
use Rattle.fdb_queue.specs.declared.config.QueueConfig.{QueueConfig}
use Rattle.fdb_queue.specs.declared.waiting.Req.{Req}
use Rattle.fdb_queue.specs.Admission.{is_count, is_throttled}
use Rattle.fdb_queue.specs.Config.{IsConfig}
use Rattle.fdb_queue.specs.Queue.{Queue}
use Rattle.fdb_queue.specs.Waiting.{row}

-- A request has the priority of its list and a count that is admitted, and its limit is not 0: a
-- batch request never waits where no batch request is let in.
pub record IsAdmitted {T : Type 0} (config : QueueConfig) (priority : Priority)
    (request : Req T) : Type 0 where
  pub own : request.priority ≡ priority
  pub count : is_count config priority request.count ≡ true
  pub unthrottled : is_throttled config priority ≡ false

-- a budget does not exceed the greatest burst
abbrev pub IsBudget : ℕ → Type 0
IsBudget budget = budget ≤ MAX_BURST * RATE_WINDOW

pub record AreBudgets (budgets : Budgets) : Type 0 where
  pub normal : IsBudget budgets.normal
  pub batch : IsBudget budgets.batch

-- Each list has admitted requests of its priority, no more wait than the capacity allows, and no
-- budget is above its bound.
pub record IsQueue {T : Type 0} (queue : Queue T) : Type 0 where
  pub config : IsConfig queue.config
  pub system : All (IsAdmitted queue.config System) queue.waiting.system
  pub default_ : All (IsAdmitted queue.config Default) queue.waiting.default_
  pub batch : All (IsAdmitted queue.config Batch) queue.waiting.batch
  pub room : length (row queue.waiting) ≤ queue.config.room
  pub budgets : AreBudgets queue.budgets
