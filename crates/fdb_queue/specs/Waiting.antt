-- What waits at a GRV proxy, as one row.
use Rattle.std.specs.Prelude.{ℕ, Bool, true, false, ◌==◌, if◌then◌else◌, List, [], ◌∷◌, ◌++◌, Option, None, Some, drop, filter, length, sum_by}
use Rattle.fdb_history.specs.declared.log.Priority.{Priority}
use Rattle.fdb_history.specs.declared.log.Priority.TheVariants.{System, Default, Batch}
use Rattle.fdb_queue.specs.declared.waiting.Req.{Req}

-- The requests that wait, by priority, in each list the oldest first.
pub record Requests (T : Type 0) : Type 0 where
  pub system : List (Req T)
  pub default_ : List (Req T)
  pub batch : List (Req T)

-- The row in which they start: system requests, then default ones, then batch ones.
-- (`transactionStarter` of GrvProxyServer takes from the first of its three queues that has one)
abbrev pub row : {T : Type 0} → Requests T → List (Req T)
row waiting = waiting.system ++ waiting.default_ ++ waiting.batch

-- No request waits at any priority, as in a new queue.
abbrev pub nothing : {T : Type 0} → Requests T
nothing = record { system = []; default_ = []; batch = [] }

-- How many transactions some requests stand for: the sum of their counts.
abbrev pub total : {T : Type 0} → List (Req T) → ℕ
total requests = sum_by (λ request. request.count) requests

-- whether a priority is the given one
abbrev pub is_priority : Priority → Priority → Bool
is_priority System System = true
is_priority Default Default = true
is_priority Batch Batch = true
is_priority _ _ = false

-- those of some requests that have a priority
abbrev pub of_priority : {T : Type 0} → Priority → List (Req T) → List (Req T)
of_priority priority requests = filter (λ request. is_priority priority request.priority) requests

-- the first of a list, if it has one
abbrev pub first : {X : Type 0} → List X → Option X
first [] = None
first (x ∷ xs) = Some x

-- a request at the end of its list
abbrev pub with_last : {T : Type 0} → Requests T → Req T → Priority → Requests T
with_last waiting request System = record waiting { system = waiting.system ++ request ∷ [] }
with_last waiting request Default = record waiting { default_ = waiting.default_ ++ request ∷ [] }
with_last waiting request Batch = record waiting { batch = waiting.batch ++ request ∷ [] }

-- the requests without the first of the row
abbrev pub without_first : {T : Type 0} → Requests T → Requests T
without_first waiting =
    if length waiting.system == 0 then (
    if length waiting.default_ == 0 then record waiting { batch = drop 1 waiting.batch }
    else record waiting { default_ = drop 1 waiting.default_ }
    ) else record waiting { system = drop 1 waiting.system }
