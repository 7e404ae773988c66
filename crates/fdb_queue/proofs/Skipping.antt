-- Windows that start nothing, held at once.
use Rattle.std.proofs.Common.{◌≡◌, ℕ, zero, suc, ◌+◌, ◌-◌, ◌*◌, ◌≤◌, ◌<◌, ◌==◌, ◌&&◌, ◌⊎◌, inl, inr, Bool, true, false, List, [], ◌∷◌, ◌++◌, length, refl, sym, ap, ◌∙◌, arith, length-append}
use native.Mathlib.Nat.{suc-mul, mul-pos}
use Rattle.std.specs.Int.{div_ceil}
use Rattle.std.specs.Prelude.{All, Some, IfSome, max, nat_le}
use Rattle.std.proofs.lemmas.Grind.{common_steps}
use Rattle.std.proofs.lemmas.Bool.{and_parts}
use Rattle.std.proofs.lemmas.Bool.Decides.{nat_tests}
use Rattle.std.proofs.lemmas.Grind.{div_ceil_times}
use Rattle.std.proofs.lemmas.List.Elements.{All-head}
use Rattle.fdb_history.specs.declared.log.Priority.TheVariants.{System, Default, Batch}
use Rattle.fdb_queue.specs.declared.window.Budgets.{Budgets}
use Rattle.fdb_queue.specs.declared.config.QueueConfig.{QueueConfig}
use Rattle.fdb_queue.specs.declared.config.TheConstants.{MAX_COUNT, MAX_BURST, IDLE_BURST}
use Rattle.fdb_queue.specs.declared.waiting.Req.{Req}
use Rattle.fdb_queue.specs.declared.throttles.Throttle.{Throttle}
use Rattle.fdb_queue.specs.Admission.{is_count}
use Rattle.fdb_queue.specs.Budgets.{budget_after, cut}
use Rattle.fdb_queue.specs.Kept.{IsQueue, IsAdmitted}
use Rattle.fdb_queue.specs.Queue.{Queue}
use Rattle.fdb_queue.specs.Waiting.{row, first}
use Rattle.fdb_queue.specs.Waits.{after_windows, StartsAfter}
use Rattle.fdb_queue.specs.private.Rates.{idle_budget, lacking}
use Rattle.fdb_queue.specs.Window.{may_start, window, after_window}
use Rattle.fdb_queue.proofs.Turning.{waited, after_idle, held, started, may_by_limit, cut_missing, counted, first_split}

-- ---- the budgets

twice : (windows elapsed limit budget : ℕ) (idle : Bool)
    → idle_budget windows elapsed limit (cut idle (budget_after elapsed limit 0 budget)) idle ≡ idle_budget (suc windows) elapsed limit budget idle
twice zero elapsed limit budget true = let one : 1 * (elapsed * limit) ≡ elapsed * limit = omega arith in grind arith
twice zero elapsed limit budget false = let one : 1 * (elapsed * limit) ≡ elapsed * limit = omega arith in grind arith
twice (suc windows) elapsed limit budget true = let more : suc (suc windows) * (elapsed * limit) ≡ suc windows * (elapsed * limit) + elapsed * limit = suc-mul (suc windows) (elapsed * limit) in grind arith
twice (suc windows) elapsed limit budget false = let more : suc (suc windows) * (elapsed * limit) ≡ suc windows * (elapsed * limit) + elapsed * limit = suc-mul (suc windows) (elapsed * limit) in grind arith

abbrev pub skipped : {T : Type 0} → ℕ → ℕ → Queue T → Queue T
skipped elapsed windows queue =
    record queue {
      budgets = record {
        normal = idle_budget windows elapsed queue.config.normal queue.budgets.normal (length queue.waiting.system + length queue.waiting.default_ == 0);
        batch = idle_budget windows elapsed queue.config.batch queue.budgets.batch (length (row queue.waiting) == 0);
      };
    }

once_more : {T : Type 0} (elapsed windows : ℕ) (queue : Queue T) → skipped elapsed windows (waited elapsed queue) ≡ skipped elapsed (suc windows) queue
once_more elapsed windows queue = grind (arith, common_steps, nat_tests)

pub all_skipped : {T : Type 0} (elapsed windows : ℕ) (queue : Queue T) → ((before : ℕ) → before < windows → window (after_windows elapsed before queue) ≡ [])
    → after_windows elapsed windows queue ≡ skipped elapsed windows queue
all_skipped elapsed zero queue idle = refl
all_skipped elapsed (suc windows) queue idle =
    let after = after_idle elapsed queue (idle 0 (omega arith)) in
    let rest : after_windows elapsed windows (waited elapsed queue) ≡ skipped elapsed windows (waited elapsed queue) =
    all_skipped elapsed windows (waited elapsed queue) (λ before less. rw (← after) (idle (suc before) (omega arith))) in
    rw after (rest ∙ once_more elapsed windows queue)

-- ---- a batch request that both rates hold

-- the first of the row is a batch request, and what waits is admitted
record IsBatchHead {T : Type 0} (queue : Queue T) (request : Req T) (left : List (Req T)) : Type 0 where
  pub row_is : row queue.waiting ≡ request ∷ left
  pub own : request.priority ≡ Batch
  pub alone : (length queue.waiting.system + length queue.waiting.default_ == 0) ≡ true
  pub waiting : (length (row queue.waiting) == 0) ≡ false
  pub count : request.count ≤ queue.config.normal + IDLE_BURST
  pub small : request.count ≤ MAX_BURST
  pub grants : 1 ≤ queue.config.batch

-- what the request lacks by the normal rate, and by the batch rate
abbrev lacks_normal : {T : Type 0} → Queue T → Req T → ℕ
lacks_normal queue request = lacking queue.config.normal queue.budgets.normal request.count

abbrev lacks_batch : {T : Type 0} → Queue T → Req T → ℕ
lacks_batch queue request = lacking queue.config.batch queue.budgets.batch request.count

may_batch : {T : Type 0} (queue : Queue T) (request : Req T) (left : List (Req T)) → IsBatchHead queue request left
    → may_start queue.config queue.budgets request.priority request.count ≡ (nat_le (lacks_batch queue request) 0 && nat_le (lacks_normal queue request) 0)
may_batch queue request left h =
    rw (h.own, may_by_limit queue.config.batch queue.budgets.batch request.count h.small, may_by_limit queue.config.normal queue.budgets.normal request.count h.small) refl

-- The normal rate, for which nothing waits then, keeps no more than 10 transactions: enough for a count that is admitted.
cut_lacking : (elapsed limit budget count : ℕ) → count ≤ limit + IDLE_BURST
    → lacking limit (cut true (budget_after elapsed limit 0 budget)) count ≡ lacking limit budget count - elapsed * limit
cut_lacking elapsed limit budget count small = grind arith

next_normal : {T : Type 0} (elapsed : ℕ) (queue : Queue T) (request : Req T) (left : List (Req T)) → IsBatchHead queue request left
    → lacks_normal (waited elapsed queue) request ≡ lacks_normal queue request - elapsed * queue.config.normal
next_normal elapsed queue request left h = rw h.alone (cut_lacking elapsed queue.config.normal queue.budgets.normal request.count h.count)

next_batch : {T : Type 0} (elapsed : ℕ) (queue : Queue T) (request : Req T) (left : List (Req T)) → IsBatchHead queue request left
    → lacks_batch (waited elapsed queue) request ≡ lacks_batch queue request - elapsed * queue.config.batch
next_batch elapsed queue request left h = rw h.waiting (cut_missing elapsed queue.config.batch queue.budgets.batch request.count h.small)

still_batch : {T : Type 0} (elapsed : ℕ) (queue : Queue T) (request : Req T) (left : List (Req T)) → IsBatchHead queue request left → IsBatchHead (waited elapsed queue) request left
still_batch elapsed queue request left h = record { row_is = h.row_is; own = h.own; alone = h.alone; waiting = h.waiting; count = h.count; small = h.small; grants = h.grants }

-- ---- what is known of a batch request that waits

batch_count : (config : QueueConfig) (count : ℕ) → is_count config Batch count ≡ true → (count ≤ config.normal + IDLE_BURST) × (count ≤ MAX_BURST)
batch_count config count is = grind (arith, common_steps, nat_tests)

batch_head : {T : Type 0} (config : QueueConfig) (budgets : Budgets) (throttles : List Throttle) (system default_ batch : List (Req T)) (request : Req T) (left : List (Req T))
    → All (IsAdmitted config System) system → All (IsAdmitted config Default) default_ → All (IsAdmitted config Batch) batch
    → system ++ default_ ++ batch ≡ request ∷ left → request.priority ≡ Batch
    → IsBatchHead (record { config = config; waiting = record { system = system; default_ = default_; batch = batch }; budgets = budgets; throttles = throttles }) request left
batch_head {T = T} config budgets throttles (x ∷ system) default_ batch request left ss ds bs is own =
    let same : x ≡ request = cc in
    let other : x.priority ≡ System = (All-head (IsAdmitted config System) x system ss).own in
    let both : System ≡ Batch = sym other ∙ ap (λ (it : Req T). it.priority) same ∙ own in
    cc
batch_head {T = T} config budgets throttles [] (x ∷ default_) batch request left ss ds bs is own =
    let same : x ≡ request = cc in
    let other : x.priority ≡ Default = (All-head (IsAdmitted config Default) x default_ ds).own in
    let both : Default ≡ Batch = sym other ∙ ap (λ (it : Req T). it.priority) same ∙ own in
    cc
batch_head {T = T} config budgets throttles [] [] (x ∷ batch) request left ss ds bs is own =
    let same : x ≡ request = cc in
    let admitted = All-head (IsAdmitted config Batch) x batch bs in
    let counts = rw same at (batch_count config x.count admitted.count) in
    record {
      row_is = is;
      own = own;
      alone = refl;
      waiting = grind (arith, nat_tests);
      count = counts.0;
      small = counts.1;
      grants = grind (arith, nat_tests, admitted.unthrottled);
    }
batch_head config budgets throttles [] [] [] request left ss ds bs is own = cc

batch_head_of : {T : Type 0} (queue : Queue T) (request : Req T) (left : List (Req T)) → IsQueue queue → row queue.waiting ≡ request ∷ left → request.priority ≡ Batch → IsBatchHead queue request left
batch_head_of queue request left h is own = batch_head queue.config queue.budgets queue.throttles queue.waiting.system queue.waiting.default_ queue.waiting.batch request left h.system h.default_ h.batch is own

-- Where a batch request waits its own limit is not 0.
pub batch_grants : {T : Type 0} (queue : Queue T) (request : Req T) → IsQueue queue → first (row queue.waiting) ≡ Some request → request.priority ≡ Batch → 1 ≤ queue.config.batch
batch_grants queue request h is own = let split = first_split (row queue.waiting) request is in (batch_head_of queue request split.0 h split.1 own).grants

-- ---- the numbers that are computed, by the head's priority

pub system_goes : {T : Type 0} (queue : Queue T) (request : Req T) (elapsed : ℕ) → first (row queue.waiting) ≡ Some request → request.priority ≡ System → StartsAfter elapsed queue 0
system_goes queue request elapsed is own =
    let split = first_split (row queue.waiting) request is in
    record {
      idle = λ before less. absurd (omega arith);
      starts = started queue request split.0 split.1 (rw own refl);
    }

most_suffice : (n step some most : ℕ) → n ≤ some * step → some ≤ most → n ≤ most * step
most_suffice n step some most enough within = grind arith

pub batch_held : {T : Type 0} (queue : Queue T) (request : Req T) (elapsed normal batch count : ℕ) → IsQueue queue → 1 ≤ elapsed → first (row queue.waiting) ≡ Some request → request.priority ≡ Batch
    → normal ≡ div_ceil (lacking queue.config.normal queue.budgets.normal request.count) (elapsed * queue.config.normal)
    → batch ≡ div_ceil (lacking queue.config.batch queue.budgets.batch request.count) (elapsed * queue.config.batch)
    → count ≡ max normal batch → StartsAfter elapsed queue count
batch_held {T = T} queue request elapsed normal batch count h time is own normal_is batch_is count_is =
    let split = first_split (row queue.waiting) request is in
    let here = batch_head_of queue request split.0 h split.1 own in
    let by_normal = rw (← normal_is) at (div_ceil_times (lacks_normal queue request) (elapsed * queue.config.normal) (mul-pos time h.config.normal_some)) in
    let by_batch = rw (← batch_is) at (div_ceil_times (lacks_batch queue request) (elapsed * queue.config.batch) (mul-pos time here.grants)) in
    let either : (count ≡ normal) ⊎ (count ≡ batch) = grind arith in
    let Head : Queue T → Type 0 = λ it. IsBatchHead it request split.0 × (elapsed * queue.config.normal ≡ elapsed * it.config.normal) × (elapsed * queue.config.batch ≡ elapsed * it.config.batch) in
    counted elapsed request split.0 Head (λ it. lacks_normal it request) (λ it. lacks_batch it request) (elapsed * queue.config.normal) (elapsed * queue.config.batch)
    (λ it head. head.0.row_is) (λ it head. may_batch it request split.0 head.0) (λ it head. (still_batch elapsed it request split.0 head.0, head.1, head.2))
    (λ it head. next_normal elapsed it request split.0 head.0 ∙ ap (λ n. lacks_normal it request - n) (sym head.1))
    (λ it head. next_batch elapsed it request split.0 head.0 ∙ ap (λ n. lacks_batch it request - n) (sym head.2))
    queue count (here, refl, refl)
    (most_suffice (lacks_normal queue request) (elapsed * queue.config.normal) normal count by_normal.0 (omega (arith, count_is)))
    (most_suffice (lacks_batch queue request) (elapsed * queue.config.batch) batch count by_batch.0 (omega (arith, count_is)))
    (λ _. elim either [ inl same ↦ inl (rw same by_normal.1) | inr same ↦ inr (rw same by_batch.1) ])

none_before : {T : Type 0} (requests : List (Req T)) (queue : Queue T) (elapsed windows : ℕ) → IfSome (first requests) (λ _. StartsAfter elapsed queue windows) → (requests ≡ [] → windows ≡ 0)
    → (before : ℕ) → before < windows → window (after_windows elapsed before queue) ≡ []
none_before [] queue elapsed windows exact empty before less = absurd (omega (arith, empty refl))
none_before (request ∷ requests) queue elapsed windows exact empty before less = exact.idle before less

pub idle_by : {T : Type 0} (queue : Queue T) (elapsed windows : ℕ) → IfSome (first (row queue.waiting)) (λ _. StartsAfter elapsed queue windows) → (row queue.waiting ≡ [] → windows ≡ 0)
    → (before : ℕ) → before < windows → window (after_windows elapsed before queue) ≡ []
idle_by queue elapsed windows exact empty = none_before (row queue.waiting) queue elapsed windows exact empty

-- the queue that is left
pub skipped_by : {T : Type 0} (elapsed windows : ℕ) (queue : Queue T) (normal batch : ℕ) → ((before : ℕ) → before < windows → window (after_windows elapsed before queue) ≡ [])
    → normal ≡ idle_budget windows elapsed queue.config.normal queue.budgets.normal (length queue.waiting.system + length queue.waiting.default_ == 0)
    → batch ≡ idle_budget windows elapsed queue.config.batch queue.budgets.batch (length queue.waiting.system + length queue.waiting.default_ + length queue.waiting.batch == 0)
    → record queue { budgets = record { normal = normal; batch = batch } } ≡ after_windows elapsed windows queue
skipped_by elapsed windows queue normal batch idle normal_is batch_is =
    let waiting = queue.waiting in
    let same : length waiting.system + length waiting.default_ + length waiting.batch ≡ length (row waiting) =
    omega (arith, length-append (waiting.system ++ waiting.default_) waiting.batch, length-append waiting.system waiting.default_) in
    let by_row = rw same at batch_is in
    rw (all_skipped elapsed windows queue idle, normal_is, by_row) refl
