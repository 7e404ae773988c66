-- Rates and budgets. A budget is a number of transactions, times `RATE_WINDOW`. (this product's
-- own)
use Rattle.std.specs.Prelude.{ℕ, ◌+◌, ◌-◌, ◌*◌, Bool, if◌then◌else◌, nat_le, min}
use Rattle.fdb_queue.specs.declared.config.TheConstants.{RATE_WINDOW, MAX_BURST, IDLE_BURST}

-- Whether a rate lets so many transactions start in one window: they fit into its limit and its
-- budget, and into the greatest burst.
abbrev pub can_start : ℕ → ℕ → ℕ → Bool
can_start limit budget transactions =
    nat_le (transactions * RATE_WINDOW)
    (min (limit * RATE_WINDOW + budget) (MAX_BURST * RATE_WINDOW))

-- The budget of a rate after a window: it gains what the limit grants for the time since the last
-- window, and pays for that time at the rate of what was started. It does not fall below 0.
abbrev pub budget_after : ℕ → ℕ → ℕ → ℕ → ℕ
budget_after elapsed limit started budget = budget + elapsed * limit - elapsed * started

-- A budget is cut: to a small burst where nothing waits for its rate, and to the greatest one
-- always.
abbrev pub cut : Bool → ℕ → ℕ
cut idle budget = min budget ((if idle then IDLE_BURST else MAX_BURST) * RATE_WINDOW)
