-- What C is told of a queue's operations.
use Rattle.std.specs.Prelude.{◌≡◌, ℕ, Bool, true, false, ◌&&◌, ◌==◌, nat_le, List, [], ◌∷◌, ◌++◌, map, length, drop, Option, None, Some, if◌then◌else◌}
use Rattle.fdb_history.specs.declared.log.Priority.{Priority}
use Rattle.fdb_history.specs.declared.log.TagLimit.{TagLimit}
use Rattle.fdb_history.specs.declared.log.Priority.TheVariants.{System, Default, Batch}
use Rattle.fdb_queue.specs.Admission.{refusal_of, admitted, pushed_out}
use Rattle.fdb_queue.specs.Queue.{Queue}
use Rattle.fdb_queue.specs.Throttles.{SameThrottles}
use Rattle.fdb_queue.specs.Waiting.{first, row, without_first}
use Rattle.fdb_queue.specs.Window.{window, after_window}
use Rattle.fdb_queue.specs.declared.config.TheConstants.{MAX_ELAPSED}
use Rattle.fdb_queue.specs.declared.config.QueueConfig.{QueueConfig}
use Rattle.fdb_queue.specs.declared.error.QueueError.{QueueError}
use Rattle.fdb_queue.specs.declared.error.QueueError.TheVariants.{BadConfig, BadCount, BatchThrottled, Full, TagTooLong, Memory}
use Rattle.fdb_queue.specs.declared.waiting.Req.{Req}
use Rattle.fdb_c.specs.declared.queue.FdbOp.{FdbOp}
use Rattle.fdb_c.specs.declared.queue.FdbQueueConfig.{FdbQueueConfig}
use Rattle.fdb_c.specs.declared.queue.FdbRequest.{FdbRequest}
use Rattle.fdb_c.specs.declared.queue.FdbOutcome.{FdbOutcome}
use Rattle.fdb_c.specs.declared.queue.Op.{Op}
use Rattle.fdb_c.specs.declared.queue_limits.FdbLimit.{FdbLimit}
use Rattle.fdb_c.specs.declared.queue.Op.TheVariants.{Offer, Window, Pop}
use Rattle.fdb_c.specs.declared.queue.TheConstants.{FDB_OP_OFFER, FDB_OP_WINDOW, FDB_OP_POP}
use Rattle.fdb_c.specs.declared.status.TheConstants.{FDB_OK, FDB_MEMORY, FDB_ROOM, FDB_BAD_OP, FDB_BAD_CONFIG, FDB_BAD_COUNT, FDB_BATCH_THROTTLED, FDB_FULL, FDB_TAG_TOO_LONG}

-- A configuration, as the library sees it.
abbrev pub config_of : FdbQueueConfig → QueueConfig
config_of config = record { normal = config.normal; batch = config.batch; room = config.room }

-- A priority's number.
abbrev pub number_of : Priority → ℕ
number_of System = 0
number_of Default = 1
number_of Batch = 2

-- The priority of a number, if there is one.
abbrev pub priority_of : ℕ → Option Priority
priority_of number =
    if number == 0 then Some System
    else (if number == 1 then Some Default
    else (if number == 2 then Some Batch else None))

-- A refusal's number.
abbrev pub status_of : Option QueueError → ℕ
status_of None = FDB_OK
status_of (Some BadConfig) = FDB_BAD_CONFIG
status_of (Some BadCount) = FDB_BAD_COUNT
status_of (Some BatchThrottled) = FDB_BATCH_THROTTLED
status_of (Some Full) = FDB_FULL
status_of (Some TagTooLong) = FDB_TAG_TOO_LONG
status_of (Some Memory) = FDB_MEMORY

-- A request, as C is told of it.
abbrev pub request_of : Req ℕ → FdbRequest
request_of request = record {
  count = request.count;
  payload = request.payload;
  priority = number_of request.priority;
}

-- what stands where there is no request
abbrev pub no_request : FdbRequest
no_request = record { count = 0; payload = 0; priority = 0 }

-- The offer of a request, where there is such a priority.
abbrev pub offer_of : Option Priority → ℕ → ℕ → Option Op
offer_of None count payload = None
offer_of (Some priority) count payload =
    Some (Offer (record { priority = priority; count = count; payload = payload }))

-- The offer of a request that C writes.
abbrev pub offered : FdbRequest → Option Op
offered request = offer_of (priority_of request.priority) request.count request.payload

-- What an operation of C is, if it is one.
abbrev pub op_of : FdbOp → Option Op
op_of op =
    if op.kind == FDB_OP_OFFER then offer_of (priority_of op.priority) op.amount op.payload
    else (if op.kind == FDB_OP_WINDOW then Some (Window op.amount)
    else (if op.kind == FDB_OP_POP then Some Pop else None))

-- whether a time between two windows is in range
abbrev pub is_time : ℕ → Bool
is_time elapsed = nat_le 1 elapsed && nat_le elapsed MAX_ELAPSED

-- Why an operation is refused, by its number.
abbrev pub status_at : Queue ℕ → Op → ℕ
status_at queue (Offer request) = status_of (refusal_of queue request)
status_at queue (Window elapsed) = if is_time elapsed then FDB_OK else FDB_BAD_CONFIG
status_at queue Pop = FDB_OK

-- the queue after an offer that this speaks against, or nothing
abbrev pub after_offer : Option QueueError → Queue ℕ → Req ℕ → Queue ℕ
after_offer None queue request = admitted queue request
after_offer (Some _) queue request = queue

-- The queue after an operation.
abbrev pub after_op : Queue ℕ → Op → Queue ℕ
after_op queue (Offer request) = after_offer (refusal_of queue request) queue request
after_op queue (Window elapsed) = if is_time elapsed then after_window elapsed queue else queue
after_op queue Pop = record queue { waiting = without_first queue.waiting }

-- the request that such an offer pushes out
abbrev pub out_of_offer : Option QueueError → Queue ℕ → Req ℕ → Option (Req ℕ)
out_of_offer None queue request = pushed_out queue request
out_of_offer (Some _) queue request = None

-- The request that an operation pushes out or takes out, if there is one.
abbrev pub out_at : Queue ℕ → Op → Option (Req ℕ)
out_at queue (Offer request) = out_of_offer (refusal_of queue request) queue request
out_at queue (Window elapsed) = None
out_at queue Pop = first (row queue.waiting)

-- The requests that an operation starts.
abbrev pub started_at : Queue ℕ → Op → List FdbRequest
started_at queue (Offer request) = []
started_at queue (Window elapsed) = if is_time elapsed then map request_of (window queue) else []
started_at queue Pop = []

-- What is shown of the queue after an operation.
abbrev pub shown : ℕ → Option (Req ℕ) → ℕ → Queue ℕ → FdbOutcome
shown status None started queue = record {
  normal = queue.budgets.normal;
  batch = queue.budgets.batch;
  system_waits = length queue.waiting.system;
  default_waits = length queue.waiting.default_;
  batch_waits = length queue.waiting.batch;
  started = started;
  out = no_request;
  has_out = false;
  status = status;
}
shown status (Some request) started queue = record {
  normal = queue.budgets.normal;
  batch = queue.budgets.batch;
  system_waits = length queue.waiting.system;
  default_waits = length queue.waiting.default_;
  batch_waits = length queue.waiting.batch;
  started = started;
  out = request_of request;
  has_out = true;
  status = status;
}

-- The outcome of an operation.
abbrev pub outcome : Queue ℕ → Op → FdbOutcome
outcome queue op =
    shown (status_at queue op) (out_at queue op) (length (started_at queue op)) (after_op queue op)

-- The outcome of what C asks for.
abbrev pub told : Queue ℕ → Option Op → FdbOutcome
told queue None = shown FDB_BAD_OP None 0 queue
told queue (Some op) = outcome queue op

-- the status of it
abbrev pub status_told : Queue ℕ → Option Op → ℕ
status_told queue None = FDB_BAD_OP
status_told queue (Some op) = status_at queue op

-- the queue after what C asks for
abbrev pub after : Queue ℕ → Option Op → Queue ℕ
after queue None = queue
after queue (Some op) = after_op queue op

-- the requests that it starts
abbrev pub started_by : Queue ℕ → Option Op → List FdbRequest
started_by queue None = []
started_by queue (Some op) = started_at queue op

-- A window was held, or refused for its time: neither room nor memory was missing.
abbrev pub IsDone : ℕ → Type 0
IsDone status = (status ≡ FDB_MEMORY → ⊥) × (status ≡ FDB_ROOM → ⊥)

-- A window was held, or refused for its time: its outcome, and the requests that it starts, which
-- were written to the start of what C gave.
pub record HasHeld (elapsed : ℕ) (old new : Queue ℕ) (given : FdbOutcome) (started_old started_new : List FdbRequest) : Type 0 where
  pub outcome : given ≡ told old (Some (Window elapsed))
  pub started : started_new ≡ started_by old (Some (Window elapsed)) ++ drop (length (started_by old (Some (Window elapsed)))) started_old
  pub after : new ≡ after old (Some (Window elapsed))

-- The outcomes of some operations, each in its turn.
abbrev pub told_each : Queue ℕ → List FdbOp → List FdbOutcome
told_each queue [] = []
told_each queue (op ∷ ops) = told queue (op_of op) ∷ told_each (after queue (op_of op)) ops

-- The requests that they start, in order.
abbrev pub started_each : Queue ℕ → List FdbOp → List FdbRequest
started_each queue [] = []
started_each queue (op ∷ ops) =
    started_by queue (op_of op) ++ started_each (after queue (op_of op)) ops

-- Both were written to the start of what C gave, and how many requests start.
pub record AreWritten (queue : Queue ℕ) (ops : List FdbOp) (outcomes_old outcomes_new : List FdbOutcome)
    (started_old started_new : List FdbRequest) (count : ℕ) : Type 0 where
  pub outcomes : outcomes_new ≡ told_each queue ops ++ drop (length ops) outcomes_old
  pub started : started_new ≡ started_each queue ops ++ drop (length (started_each queue ops)) started_old
  pub size : count ≡ length (started_each queue ops)

-- A throttle was set, where there is such a priority: it counts before those that there were, and
-- all else is as it was.
abbrev pub IsSet : Queue ℕ → Option Priority → List ℕ → ℕ → ℕ → Queue ℕ → Type 0
IsSet before None tag rate expires after = ⊥
IsSet before (Some priority) tag rate expires after =
    SameThrottles after.throttles
    (record { priority = priority; tag = tag; rate = rate; expires = expires } ∷ before.throttles)
    × (after ≡ record before { throttles = after.throttles })

-- The limit of a tag, as C is told of it.
abbrev pub limit_shown : List TagLimit → FdbLimit
limit_shown [] = record { rate = 0; expires = 0; holds = false }
limit_shown (limit ∷ _) = record { rate = limit.rate; expires = limit.expires; holds = true }
