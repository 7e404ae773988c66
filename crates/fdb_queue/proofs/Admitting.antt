-- A queue stays one when a request is let in.
use Rattle.std.proofs.Common.{◌≡◌, ℕ, suc, ◌+◌, ◌<◌, ◌==◌, Bool, true, false, List, [], ◌∷◌, ◌++◌, length, drop, None, refl, arith, length-append}
use Rattle.std.specs.Prelude.{All, if◌then◌else◌, not}
use Rattle.std.proofs.lemmas.Grind.{common_steps}
use Rattle.std.proofs.lemmas.List.Elements.{All-push, All-drop}
use Rattle.std.proofs.lemmas.Bool.Decides.{nat_tests}
use Rattle.fdb_history.specs.declared.log.Priority.{Priority}
use Rattle.fdb_history.specs.declared.log.Priority.TheVariants.{System, Default, Batch}
use Rattle.fdb_queue.specs.declared.config.QueueConfig.{QueueConfig}
use Rattle.fdb_queue.specs.declared.waiting.Req.{Req}
use Rattle.fdb_queue.specs.Admission.{refusal_of, admitted, without_oldest, is_full, is_count, is_throttled, below}
use Rattle.fdb_queue.specs.Kept.{IsQueue, IsAdmitted}
use Rattle.fdb_queue.specs.Queue.{Queue}
use Rattle.fdb_queue.specs.Waiting.{Requests, row, with_last}

-- what is known of a request that is let in
pub record IsLetIn {T : Type 0} (queue : Queue T) (request : Req T) : Type 0 where
  pub count : is_count queue.config request.priority request.count ≡ true
  pub unthrottled : is_throttled queue.config request.priority ≡ false
  pub room : is_full queue ≡ true → (length (below request.priority queue.waiting) == 0) ≡ false

pub let_in : {T : Type 0} (queue : Queue T) (request : Req T) → refusal_of queue request ≡ None → IsLetIn queue request
let_in queue request h = grind (arith, common_steps, nat_tests)

is_admitted : {T : Type 0} (queue : Queue T) (request : Req T) → IsLetIn queue request → IsAdmitted queue.config request.priority request
is_admitted queue request let_in = record { own = refl; count = let_in.count; unthrottled = let_in.unthrottled }

-- each list has admitted requests of its priority
pub record AreAdmitted {T : Type 0} (config : QueueConfig) (waiting : Requests T) : Type 0 where
  pub system : All (IsAdmitted config System) waiting.system
  pub default_ : All (IsAdmitted config Default) waiting.default_
  pub batch : All (IsAdmitted config Batch) waiting.batch

AreAdmitted-with_last : {T : Type 0} (config : QueueConfig) (waiting : Requests T) (request : Req T) (priority : Priority)
    → IsAdmitted config priority request → AreAdmitted config waiting
    → AreAdmitted config (with_last waiting request priority)
AreAdmitted-with_last config waiting request System it h = record {
  system = All-push (IsAdmitted config System) waiting.system request h.system it;
  default_ = h.default_;
  batch = h.batch;
}
AreAdmitted-with_last config waiting request Default it h = record {
  system = h.system;
  default_ = All-push (IsAdmitted config Default) waiting.default_ request h.default_ it;
  batch = h.batch;
}
AreAdmitted-with_last config waiting request Batch it h = record {
  system = h.system;
  default_ = h.default_;
  batch = All-push (IsAdmitted config Batch) waiting.batch request h.batch it;
}

AreAdmitted-without_oldest : {T : Type 0} (config : QueueConfig) (waiting : Requests T) → AreAdmitted config waiting
    → AreAdmitted config (without_oldest waiting)
AreAdmitted-without_oldest config waiting h = elim (length waiting.batch == 0) as (λ v. AreAdmitted config (if v then record waiting { default_ = drop 1 waiting.default_ } else record waiting { batch = drop 1 waiting.batch })) [
  | true ↦ record { system = h.system; default_ = All-drop (IsAdmitted config Default) 1 waiting.default_ h.default_; batch = h.batch }
  | false ↦ record { system = h.system; default_ = h.default_; batch = All-drop (IsAdmitted config Batch) 1 waiting.batch h.batch }
]

length_row-with_last : {T : Type 0} (waiting : Requests T) (request : Req T) (priority : Priority) → length (row (with_last waiting request priority)) ≡ length (row waiting) + 1
length_row-with_last waiting request System = simp length-append (omega arith)
length_row-with_last waiting request _ = simp length-append (omega arith)

-- a list that has an item is not empty
pub not_empty : (n : ℕ) → (suc n == 0) ≡ false
not_empty n = grind (arith, nat_tests)

length_oldest : {T : Type 0} (system default_ batch : List (Req T)) → 0 < length batch + length default_
    → length (row (without_oldest (record { system = system; default_ = default_; batch = batch }))) + 1 ≡ length (system ++ default_ ++ batch)
length_oldest system [] [] some = absurd (omega arith)
length_oldest system (oldest ∷ default_) [] some = simp length-append (omega arith)
length_oldest system default_ (oldest ∷ batch) some = rw (not_empty (length batch)) (simp length-append (omega arith))

length_row-without_oldest : {T : Type 0} (waiting : Requests T) → 0 < length waiting.batch + length waiting.default_
    → length (row (without_oldest waiting)) + 1 ≡ length (row waiting)
length_row-without_oldest waiting some = length_oldest waiting.system waiting.default_ waiting.batch some

-- what may be pushed out is still there when the request has come
some_lowest : {T : Type 0} (waiting : Requests T) (request : Req T) (priority : Priority) → (length (below priority waiting) == 0) ≡ false
    → let after = with_last waiting request priority in 0 < length after.batch + length after.default_
some_lowest {T = T} waiting request System some = grind (arith, nat_tests, length-append waiting.batch waiting.default_)
some_lowest waiting request Default some = grind (arith, nat_tests, length-append waiting.default_ (request ∷ []))
some_lowest waiting request Batch some = simp length-append (omega arith)

-- A queue that was full stays one when the request has come and the oldest of the lowest priority has gone.
pub IsQueue-pushed_out : {T : Type 0} (queue : Queue T) (request : Req T) → IsQueue queue → IsLetIn queue request → is_full queue ≡ true
    → IsQueue (record queue { waiting = without_oldest (with_last queue.waiting request request.priority) })
IsQueue-pushed_out queue request h let_in full =
    let own : AreAdmitted queue.config queue.waiting = record { system = h.system; default_ = h.default_; batch = h.batch } in
    let grown = AreAdmitted-with_last queue.config queue.waiting request request.priority (is_admitted queue request let_in) own in
    let kept = AreAdmitted-without_oldest queue.config (with_last queue.waiting request request.priority) grown in
    let longer = length_row-with_last queue.waiting request request.priority in
    let shorter = length_row-without_oldest (with_last queue.waiting request request.priority) (some_lowest queue.waiting request request.priority (let_in.room full)) in
    record {
      config = h.config;
      system = kept.system;
      default_ = kept.default_;
      batch = kept.batch;
      room = omega (arith, h.room);
      budgets = h.budgets;
    }

-- what may be pushed out is among the batch and default requests
lowest_of : {T : Type 0} (waiting : Requests T) (priority : Priority) → (length (below priority waiting) == 0) ≡ false → 0 < length waiting.batch + length waiting.default_
lowest_of waiting System some = grind (arith, nat_tests, length-append waiting.batch waiting.default_)
lowest_of waiting Default some = grind (arith, nat_tests)
lowest_of waiting Batch some = cc

admitted_at : {T : Type 0} (queue : Queue T) (request : Req T) (waiting : Requests T) → IsQueue queue → IsLetIn queue request
    → AreAdmitted queue.config waiting → length (row waiting) < queue.config.room → IsQueue (record queue { waiting = with_last waiting request request.priority })
admitted_at queue request waiting h let_in own room =
    let kept = AreAdmitted-with_last queue.config waiting request request.priority (is_admitted queue request let_in) own in
    let longer = length_row-with_last waiting request request.priority in
    record {
      config = h.config;
      system = kept.system;
      default_ = kept.default_;
      batch = kept.batch;
      room = omega arith;
      budgets = h.budgets;
    }

admitted_by : {T : Type 0} (queue : Queue T) (request : Req T) (full : Bool) → is_full queue ≡ full → IsQueue queue → IsLetIn queue request
    → IsQueue (record queue { waiting = with_last (if full then without_oldest queue.waiting else queue.waiting) request request.priority })
admitted_by queue request true full h let_in =
    let own : AreAdmitted queue.config queue.waiting = record { system = h.system; default_ = h.default_; batch = h.batch } in
    let shorter = length_row-without_oldest queue.waiting (lowest_of queue.waiting request.priority (let_in.room full)) in
    let room = h.room in
    admitted_at queue request (without_oldest queue.waiting) h let_in (AreAdmitted-without_oldest queue.config queue.waiting own) (omega arith)
admitted_by queue request false full h let_in =
    let own : AreAdmitted queue.config queue.waiting = record { system = h.system; default_ = h.default_; batch = h.batch } in
    admitted_at queue request queue.waiting h let_in own (grind (arith, nat_tests, h.room))

pub IsQueue-admitted : {T : Type 0} (queue : Queue T) (request : Req T) → IsQueue queue → refusal_of queue request ≡ None → IsQueue (admitted queue request)
IsQueue-admitted queue request h none = admitted_by queue request (is_full queue) refl h (let_in queue request none)
