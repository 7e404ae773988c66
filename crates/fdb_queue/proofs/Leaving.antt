-- What a window leaves.
use Rattle.std.proofs.Common.{◌≡◌, ℕ, ◌+◌, ◌==◌, ◌<◌, Bool, true, false, List, [], ◌∷◌, ◌++◌, length, take, drop, refl, ap, ◌∙◌, arith, length-append, length-drop}
use Rattle.std.specs.Prelude.{All}
use Rattle.std.proofs.lemmas.Grind.{common_steps}
use Rattle.std.proofs.lemmas.Bool.Decides.{nat_tests}
use Rattle.std.proofs.lemmas.List.{append-nil, length-take-le}
use Rattle.std.proofs.lemmas.List.Elements.{All-head, All-tail, All-take, All-drop}
use Rattle.std.proofs.lemmas.List.Sums.{sum_by-append}
use Rattle.fdb_history.specs.declared.log.Priority.{Priority}
use Rattle.fdb_history.specs.declared.log.Priority.TheVariants.{System, Default, Batch}
use Rattle.fdb_queue.specs.declared.window.Budgets.{Budgets}
use Rattle.fdb_queue.specs.declared.config.QueueConfig.{QueueConfig}
use Rattle.fdb_queue.specs.declared.waiting.Req.{Req}
use Rattle.fdb_queue.specs.declared.waiting.Reach.{Reach}
use Rattle.fdb_queue.specs.Budgets.{budget_after, cut}
use Rattle.fdb_queue.specs.Kept.{IsQueue, IsAdmitted, IsBudget, AreBudgets}
use Rattle.fdb_queue.specs.Queue.{Queue}
use Rattle.fdb_queue.specs.private.Reach.{IsReach}
use Rattle.fdb_queue.specs.Waiting.{Requests, row, total, is_priority, of_priority}
use Rattle.fdb_queue.specs.Window.{window, without, budgets_after, after_window}

-- all of a list has its own priority
pub is_own : (priority : Priority) → is_priority priority priority ≡ true
is_own System = refl
is_own _ = refl

pub of_priority-own : {T : Type 0} (config : QueueConfig) (priority : Priority) (requests : List (Req T)) → All (IsAdmitted config priority) requests → of_priority priority requests ≡ requests
of_priority-own config priority [] all = refl
of_priority-own config priority (x ∷ xs) all =
    let head = All-head (IsAdmitted config priority) x xs all in
    rw (head.own, is_own priority, of_priority-own config priority xs (All-tail (IsAdmitted config priority) x xs all)) refl

-- and none of it another one
pub of_priority-other : {T : Type 0} (config : QueueConfig) (priority other : Priority) (requests : List (Req T)) → is_priority other priority ≡ false → All (IsAdmitted config priority) requests → of_priority other requests ≡ []
of_priority-other config priority other [] differ all = refl
of_priority-other config priority other (x ∷ xs) differ all =
    let head = All-head (IsAdmitted config priority) x xs all in
    rw (head.own, differ, of_priority-other config priority other xs differ (All-tail (IsAdmitted config priority) x xs all)) refl

-- what a window starts, by priority
pub record AreStarted {T : Type 0} (queue : Queue T) (reach : Reach) : Type 0 where
  pub system : of_priority System (window queue) ≡ take reach.counts.system queue.waiting.system
  pub default_ : of_priority Default (window queue) ≡ take reach.counts.default_ queue.waiting.default_
  pub batch : of_priority Batch (window queue) ≡ take reach.counts.batch queue.waiting.batch

of_three : {T : Type 0} (priority : Priority) (xs ys zs : List (Req T)) → of_priority priority (xs ++ ys ++ zs) ≡ of_priority priority xs ++ of_priority priority ys ++ of_priority priority zs
of_three priority xs ys zs = grind (arith, common_steps, nat_tests)

pub are_started : {T : Type 0} (queue : Queue T) (reach : Reach) → IsQueue queue → IsReach queue reach → AreStarted queue reach
are_started queue reach h is =
    let config = queue.config in
    let system = All-take (IsAdmitted config System) reach.counts.system queue.waiting.system h.system in
    let default_ = All-take (IsAdmitted config Default) reach.counts.default_ queue.waiting.default_ h.default_ in
    let batch = All-take (IsAdmitted config Batch) reach.counts.batch queue.waiting.batch h.batch in
    let xs = take reach.counts.system queue.waiting.system in
    let ys = take reach.counts.default_ queue.waiting.default_ in
    let zs = take reach.counts.batch queue.waiting.batch in
    record {
      system = ap (λ some. of_priority System some) is.started ∙ of_three System xs ys zs
          ∙ rw (of_priority-own config System xs system, of_priority-other config Default System ys refl default_, of_priority-other config Batch System zs refl batch) (append-nil (xs ++ []) ∙ append-nil xs);
      default_ = ap (λ some. of_priority Default some) is.started ∙ of_three Default xs ys zs
          ∙ rw (of_priority-other config System Default xs refl system, of_priority-own config Default ys default_, of_priority-other config Batch Default zs refl batch) (append-nil ys);
      batch = ap (λ some. of_priority Batch some) is.started ∙ of_three Batch xs ys zs
          ∙ rw (of_priority-other config System Batch xs refl system, of_priority-other config Default Batch ys refl default_, of_priority-own config Batch zs batch) refl;
    }

-- what is left of the lists
abbrev pub left_by : {T : Type 0} → Reach → Requests T → Requests T
left_by reach waiting = record {
  system = drop reach.counts.system waiting.system;
  default_ = drop reach.counts.default_ waiting.default_;
  batch = drop reach.counts.batch waiting.batch;
}

left_is : {T : Type 0} (queue : Queue T) (reach : Reach) → IsQueue queue → IsReach queue reach → left_by reach queue.waiting ≡ without (window queue) queue.waiting
left_is queue reach h is =
    let started = are_started queue reach h is in
    rw (started.system, started.default_, started.batch, length-take-le reach.counts.system queue.waiting.system is.system, length-take-le reach.counts.default_ queue.waiting.default_ is.default_, length-take-le reach.counts.batch queue.waiting.batch is.batch) refl

-- the queue after a window that left some requests
abbrev after_leaving : {T : Type 0} → Queue T → ℕ → Requests T → Queue T
after_leaving queue elapsed left = record queue { waiting = left; budgets = budgets_after queue.config queue.budgets elapsed (window queue) left }

pub after_is : {T : Type 0} (queue : Queue T) (reach : Reach) (elapsed normal batch : ℕ) (left : Requests T) → IsQueue queue → IsReach queue reach
    → left ≡ left_by reach queue.waiting
    → normal ≡ cut (length left.system + length left.default_ == 0) (budget_after elapsed queue.config.normal reach.unbatched queue.budgets.normal)
    → batch ≡ cut (length left.system + length left.default_ + length left.batch == 0) (budget_after elapsed queue.config.batch reach.all queue.budgets.batch)
    → record queue { waiting = left; budgets = record { normal = normal; batch = batch } } ≡ after_window elapsed queue
after_is queue reach elapsed normal batch left h is left_same normal_is batch_is =
    let started = are_started queue reach h is in
    let same : left ≡ without (window queue) queue.waiting = left_same ∙ left_is queue reach h is in
    let unbatched : reach.unbatched ≡ total (of_priority System (window queue)) + total (of_priority Default (window queue)) =
    is.unbatched ∙ rw (started.system, started.default_) (sum_by-append (λ request. request.count) (take reach.counts.system queue.waiting.system) (take reach.counts.default_ queue.waiting.default_)) in
    let lengths : length (row left) ≡ length left.system + length left.default_ + length left.batch = simp length-append in
    let own : Budgets = budgets_after queue.config queue.budgets elapsed (window queue) left in
    let normal_same : normal ≡ own.normal = normal_is ∙ ap (λ spent. cut (length left.system + length left.default_ == 0) (budget_after elapsed queue.config.normal spent queue.budgets.normal)) unbatched in
    let batch_same : batch ≡ own.batch = batch_is ∙ rw (← lengths, is.all) refl in
    let here : record queue { waiting = left; budgets = record { normal = normal; batch = batch } } ≡ after_leaving queue elapsed left = rw (normal_same, batch_same) refl in
    here ∙ ap (λ some. after_leaving queue elapsed some) same

-- how far a window comes has nothing to do with throttles
pub IsReach-throttled : {T : Type 0} (queue : Queue T) (reach : Reach) → IsReach (record queue { throttles = [] }) reach → IsReach queue reach
IsReach-throttled queue reach is = grind (arith, common_steps, nat_tests)

-- a window that takes somebody out starts something
pub some_started : {T : Type 0} (queue : Queue T) (reach : Reach) → IsReach queue reach → (reach.counts.system + reach.counts.default_ + reach.counts.batch ≡ 0 → ⊥) → 0 < length (window queue)
some_started queue reach is some = grind (arith, common_steps, nat_tests)

pub IsQueue-left : {T : Type 0} (queue : Queue T) (reach : Reach) (budgets : Budgets) → IsQueue queue → AreBudgets budgets
    → IsQueue (record queue { waiting = left_by reach queue.waiting; budgets = budgets })
IsQueue-left queue reach budgets h in_range = record {
  config = h.config;
  system = All-drop (IsAdmitted queue.config System) reach.counts.system queue.waiting.system h.system;
  default_ = All-drop (IsAdmitted queue.config Default) reach.counts.default_ queue.waiting.default_ h.default_;
  batch = All-drop (IsAdmitted queue.config Batch) reach.counts.batch queue.waiting.batch h.batch;
  room = simp (length-append, length-drop) (omega (arith, simp length-append at h.room));
  budgets = in_range;
}

-- a budget that is cut is within its bound
cut_in_range : (idle : Bool) (budget : ℕ) → IsBudget (cut idle budget)
cut_in_range true budget = omega arith
cut_in_range false budget = omega arith

pub IsQueue-after_window : {T : Type 0} (queue : Queue T) (elapsed : ℕ) → IsQueue queue → IsQueue (after_window elapsed queue)
IsQueue-after_window queue elapsed h =
    let started = window queue in
    record {
      config = h.config;
      system = All-drop (IsAdmitted queue.config System) (length (of_priority System started)) queue.waiting.system h.system;
      default_ = All-drop (IsAdmitted queue.config Default) (length (of_priority Default started)) queue.waiting.default_ h.default_;
      batch = All-drop (IsAdmitted queue.config Batch) (length (of_priority Batch started)) queue.waiting.batch h.batch;
      room = simp (length-append, length-drop) (omega (arith, simp length-append at h.room));
      budgets = record {
        normal = cut_in_range (length (without started queue.waiting).system + length (without started queue.waiting).default_ == 0) _;
        batch = cut_in_range (length (row (without started queue.waiting)) == 0) _;
      };
    }
