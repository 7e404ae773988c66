-- The rate that a request at the head of the row waits for. (this product's own)
use Rattle.std.specs.Prelude.{ℕ, ◌+◌, ◌-◌, ◌*◌, ◌==◌, Bool, if◌then◌else◌}
use Rattle.fdb_history.specs.declared.log.Priority.{Priority}
use Rattle.fdb_history.specs.declared.log.Priority.TheVariants.{System, Default, Batch}
use Rattle.fdb_queue.specs.Budgets.{cut}
use Rattle.fdb_queue.specs.declared.window.Budgets.{Budgets}
use Rattle.fdb_queue.specs.declared.config.TheConstants.{RATE_WINDOW}

-- the budget of that rate, whose limit is `limit_of`
abbrev pub budget_of : Budgets → Priority → ℕ
budget_of budgets System = 0
budget_of budgets Default = budgets.normal
budget_of budgets Batch = budgets.batch

-- the budget of a rate after so many windows that start nothing
abbrev pub idle_budget : ℕ → ℕ → ℕ → ℕ → Bool → ℕ
idle_budget windows elapsed limit budget idle =
    if windows == 0 then budget else cut idle (budget + windows * (elapsed * limit))

-- how much of its budget a rate lacks for so many transactions to start
abbrev pub lacking : ℕ → ℕ → ℕ → ℕ
lacking limit budget transactions = transactions * RATE_WINDOW - (limit * RATE_WINDOW + budget)
