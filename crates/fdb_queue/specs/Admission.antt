-- What becomes of a request that is offered to a queue. (this product's own)
use Rattle.std.specs.Prelude.{ℕ, ◌+◌, Bool, false, ◌&&◌, not, ◌==◌, nat_le, if◌then◌else◌, List, [], ◌++◌, length, drop, Option, None, Some, ◌≡◌}
use Rattle.fdb_history.specs.declared.log.Priority.{Priority}
use Rattle.fdb_history.specs.declared.log.Priority.TheVariants.{System, Default, Batch}
use Rattle.fdb_queue.specs.declared.config.QueueConfig.{QueueConfig}
use Rattle.fdb_queue.specs.declared.config.TheConstants.{MAX_COUNT, IDLE_BURST}
use Rattle.fdb_queue.specs.declared.error.QueueError.{QueueError}
use Rattle.fdb_queue.specs.declared.error.QueueError.TheVariants.{BadCount, BatchThrottled, Full, Memory}
use Rattle.fdb_queue.specs.declared.waiting.Req.{Req}
use Rattle.fdb_queue.specs.Queue.{Queue}
use Rattle.fdb_queue.specs.Waiting.{Requests, row, first, with_last}

-- Whether a count may be admitted: it is in range, and a batch request's is not above what the
-- normal rate can come to while nothing else waits, so that none waits for ever while nothing else
-- does.
abbrev pub is_count : QueueConfig → Priority → ℕ → Bool
is_count config System count = nat_le 1 count && nat_le count MAX_COUNT
is_count config Default count = nat_le 1 count && nat_le count MAX_COUNT
is_count config Batch count =
    nat_le 1 count && nat_le count MAX_COUNT && nat_le count (config.normal + IDLE_BURST)

-- Whether a batch request meets a batch limit of 0.
abbrev pub is_throttled : QueueConfig → Priority → Bool
is_throttled config System = false
is_throttled config Default = false
is_throttled config Batch = config.batch == 0

-- whether as many requests wait as the capacity allows
abbrev pub is_full : {T : Type 0} → Queue T → Bool
is_full queue = length (row queue.waiting) == queue.config.room

-- The requests that one of this priority may push out, in the order in which they go: batch
-- requests before default ones, and of each the oldest first.
abbrev pub below : {T : Type 0} → Priority → Requests T → List (Req T)
below System waiting = waiting.batch ++ waiting.default_
below Default waiting = waiting.batch
below Batch waiting = []

-- Why a request is refused, if it is: the first of these that applies.
abbrev pub refusal_of : {T : Type 0} → Queue T → Req T → Option QueueError
refusal_of queue request =
    if not (is_count queue.config request.priority request.count) then Some BadCount
    else if is_throttled queue.config request.priority then Some BatchThrottled
    else if is_full queue && (length (below request.priority queue.waiting) == 0) then Some Full
    else None

-- The request that is pushed out by one that is let in, if there is one.
abbrev pub pushed_out : {T : Type 0} → Queue T → Req T → Option (Req T)
pushed_out queue request =
    if is_full queue then first (below request.priority queue.waiting) else None

-- the requests without the first of those that may be pushed out
abbrev pub without_oldest : {T : Type 0} → Requests T → Requests T
without_oldest waiting =
    if length waiting.batch == 0 then record waiting { default_ = drop 1 waiting.default_ }
    else record waiting { batch = drop 1 waiting.batch }

-- The queue once a request was let in. It is the last of its list, and where the queue was full,
-- the one that it pushes out is gone.
abbrev pub admitted : {T : Type 0} → Queue T → Req T → Queue T
admitted queue request =
    let kept = if is_full queue then without_oldest queue.waiting else queue.waiting in
    record queue { waiting = with_last kept request request.priority }

-- Why an offer was refused is what the definition says. Where it lets the request in, memory was
-- refused.
abbrev pub IsCause : Option QueueError → QueueError → Type 0
IsCause (Some due) cause = cause ≡ due
IsCause None cause = cause ≡ Memory
