-- Which requests a window starts, and what it leaves. (the order is that of `transactionStarter` of
-- GrvProxyServer; the rates, the budgets and the bounds are this product's own)
use Rattle.std.specs.Prelude.{ℕ, ◌+◌, Bool, true, ◌&&◌, ◌==◌, nat_le, List, [], ◌∷◌, ◌++◌, map, find, None, unwrap_or, length, drop}
use Rattle.std.specs.List.{list_all, last_or}
use Rattle.std.specs.Option.{option_map_or}
use Rattle.fdb_history.specs.declared.log.Priority.{Priority}
use Rattle.fdb_history.specs.declared.log.Priority.TheVariants.{System, Default, Batch}
use Rattle.fdb_queue.specs.declared.config.TheConstants.{MAX_STARTED}
use Rattle.fdb_queue.specs.declared.window.Budgets.{Budgets}
use Rattle.fdb_queue.specs.declared.config.QueueConfig.{QueueConfig}
use Rattle.fdb_queue.specs.declared.waiting.Req.{Req}
use Rattle.fdb_queue.specs.Budgets.{can_start, budget_after, cut}
use Rattle.fdb_queue.specs.Queue.{Queue}
use Rattle.fdb_queue.specs.Waiting.{Requests, row, total, of_priority}

-- Whether a request of a priority may start, where so many transactions have started with it: a
-- system request always, a default one by the normal rate, a batch one by both rates.
abbrev pub may_start : QueueConfig → Budgets → Priority → ℕ → Bool
may_start config budgets System transactions = true
may_start config budgets Default transactions = can_start config.normal budgets.normal transactions
may_start config budgets Batch transactions =
    can_start config.batch budgets.batch transactions
    && can_start config.normal budgets.normal transactions

-- the prefixes of a list, the longest first
abbrev pub prefixes : {X : Type 0} → List X → List (List X)
prefixes [] = [] ∷ []
prefixes (x ∷ xs) = map (λ rest. x ∷ rest) (prefixes xs) ++ [] ∷ []

-- Whether the last of some requests may start, given the sum of all their counts. Of none there is
-- nothing to ask.
abbrev pub last_may_start : {T : Type 0} → QueueConfig → Budgets → List (Req T) → Bool
last_may_start config budgets requests =
    option_map_or (λ last. may_start config budgets last.priority (total requests))
    (last_or None requests) true

-- whether some requests may start in one window, in this order: they are not too many, and the last
-- of each prefix may
abbrev pub fits : {T : Type 0} → Queue T → List (Req T) → Bool
fits queue requests =
    nat_le (length requests) MAX_STARTED
    && list_all (λ some. last_may_start queue.config queue.budgets some) (prefixes requests)

-- What a window starts: the longest prefix of the row that fits.
abbrev pub window : {T : Type 0} → Queue T → List (Req T)
window queue = unwrap_or (find (λ requests. fits queue requests) (prefixes (row queue.waiting))) []

-- what is left of a list where its first requests have started, by how many of its priority did
abbrev pub rest_of : {T : Type 0} → Priority → List (Req T) → List (Req T) → List (Req T)
rest_of priority started requests = drop (length (of_priority priority started)) requests

-- what is left where some requests were started
abbrev pub without : {T : Type 0} → List (Req T) → Requests T → Requests T
without started waiting = record {
  system = rest_of System started waiting.system;
  default_ = rest_of Default started waiting.default_;
  batch = rest_of Batch started waiting.batch;
}

-- The budgets after a window that started some requests, by what is left waiting. The normal rate
-- pays for system and default requests, and the batch rate for all.
abbrev pub budgets_after : {T : Type 0} → QueueConfig → Budgets → ℕ → List (Req T) → Requests T
    → Budgets
budgets_after config budgets elapsed started left = record {
  normal = cut (length left.system + length left.default_ == 0)
      (budget_after elapsed config.normal
      (total (of_priority System started) + total (of_priority Default started)) budgets.normal);
  batch = cut (length (row left) == 0)
      (budget_after elapsed config.batch (total started) budgets.batch);
}

-- The queue after a window, so many microseconds after the one before.
abbrev pub after_window : {T : Type 0} → ℕ → Queue T → Queue T
after_window elapsed queue =
    let left = without (window queue) queue.waiting in
    record queue {
      waiting = left;
      budgets = budgets_after queue.config queue.budgets elapsed (window queue) left;
    }
