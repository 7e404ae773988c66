-- Windows that start nothing.
use Rattle.std.proofs.Common.{◌≡◌, ℕ, zero, suc, ◌+◌, ◌-◌, ◌*◌, ◌≤◌, ◌<◌, ◌==◌, ◌&&◌, ◌⊎◌, inl, inr, Bool, true, false, List, [], ◌∷◌, ◌++◌, length, take, refl, sym, ap, ◌∙◌, arith, zero-add, length-append}
use native.Mathlib.Nat.{suc-mul, zero-mul, mul-pos}
use Rattle.std.specs.Int.{div_ceil}
use Rattle.std.specs.Prelude.{nat_le, All, Some}
use Rattle.std.proofs.lemmas.Grind.{common_steps}
use Rattle.std.proofs.lemmas.Bool.{cases_Bool, cases_lt}
use Rattle.std.proofs.lemmas.Bool.Decides.{nat_tests}
use Rattle.std.proofs.lemmas.List.{nil_from_length}
use Rattle.std.proofs.lemmas.List.Elements.{All-head}
use Rattle.std.proofs.lemmas.Grind.{div_ceil_times}
use Rattle.fdb_history.specs.declared.log.Priority.{Priority}
use Rattle.fdb_history.specs.declared.log.Priority.TheVariants.{System, Default, Batch}
use Rattle.fdb_queue.specs.declared.window.Budgets.{Budgets}
use Rattle.fdb_queue.specs.declared.config.QueueConfig.{QueueConfig}
use Rattle.fdb_queue.specs.declared.config.TheConstants.{MAX_COUNT, MAX_BURST, RATE_WINDOW}
use Rattle.fdb_queue.specs.declared.waiting.Req.{Req}
use Rattle.fdb_queue.specs.Budgets.{can_start, budget_after, cut}
use Rattle.fdb_queue.specs.Config.{IsConfig}
use Rattle.fdb_queue.specs.Kept.{IsQueue, IsAdmitted}
use Rattle.fdb_queue.specs.Laws.{list_of}
use Rattle.fdb_queue.specs.Queue.{Queue}
use Rattle.fdb_queue.specs.Waiting.{Requests, row, total, first}
use Rattle.fdb_queue.specs.Waits.{after_windows, StartsAfter, IsSure, limit_of}
use Rattle.fdb_queue.specs.private.Rates.{budget_of, lacking}
use Rattle.fdb_queue.specs.Window.{may_start, fits, window, budgets_after, after_window}
use Rattle.fdb_queue.proofs.Fitting.{and-true, fits-more}
use Rattle.fdb_queue.proofs.LongestPrefix.{find_longest}
use Rattle.fdb_queue.proofs.Lawful.{head, counts_in_row}
use Rattle.fdb_queue.proofs.Walking.{longest}

-- somebody waits for the rate of this priority
abbrev pub IsWaiting : {T : Type 0} → Priority → Requests T → Type 0
IsWaiting System waiting = ⊥
IsWaiting Default waiting = (length waiting.system + length waiting.default_ == 0) ≡ false
IsWaiting Batch waiting = (length (row waiting) == 0) ≡ false

-- the first of the row waits for its own rate alone
pub record IsHead {T : Type 0} (queue : Queue T) (request : Req T) (left : List (Req T)) : Type 0 where
  pub row_is : row queue.waiting ≡ request ∷ left
  pub config : IsConfig queue.config
  pub sure : IsSure queue.config request.priority request.count
  pub waiting : IsWaiting request.priority queue.waiting

-- how much of a budget is missing for the first of the row
abbrev pub missing : {T : Type 0} → Queue T → Req T → ℕ
missing queue request = request.count * RATE_WINDOW - (limit_of queue.config request.priority * RATE_WINDOW + budget_of queue.budgets request.priority)

-- ---- whether a window starts something

pub held : {T : Type 0} (queue : Queue T) (request : Req T) (left : List (Req T)) → row queue.waiting ≡ request ∷ left
    → may_start queue.config queue.budgets request.priority request.count ≡ false → window queue ≡ []
held {T = T} queue request left is stays =
    let none : total {T = T} [] + request.count ≡ request.count = omega arith in
    let stops : may_start queue.config queue.budgets request.priority (total {T = T} [] + request.count) ≡ false = ap (λ sum. may_start queue.config queue.budgets request.priority sum) none ∙ stays in
    ap (λ requests. longest queue requests) is
    ∙ rw (find_longest (λ some. fits queue some) [] (request ∷ left) refl (λ more. fits-more queue [] more request (rw stops refl))) refl

not_both : {T : Type 0} (queue : Queue T) (request : Req T) (left : List (Req T)) → row queue.waiting ≡ request ∷ left
    → may_start queue.config queue.budgets request.priority request.count ≡ true → window queue ≡ [] → ⊥
not_both queue request left is goes none =
    let after : row queue.waiting ≡ window queue ++ request ∷ left = is ∙ ap (λ some. some ++ request ∷ left) (sym none) in
    let sum : total (window queue) + request.count ≡ request.count = ap (λ some. total some + request.count) none ∙ zero-add request.count in
    let empty : length (window queue) ≡ 0 = ap (λ some. length some) none in
    elim (head queue left request after) [
      | inl full ↦ omega arith
      | inr stays ↦ (let both : true ≡ false = sym goes ∙ ap (λ some. may_start queue.config queue.budgets request.priority some) (sym sum) ∙ stays in cc)
    ]

pub started : {T : Type 0} (queue : Queue T) (request : Req T) (left : List (Req T)) → row queue.waiting ≡ request ∷ left
    → may_start queue.config queue.budgets request.priority request.count ≡ true → 0 < length (window queue)
started queue request left is goes =
    elim (cases_Bool (length (window queue) == 0)) [
      | inl none ↦ absurd (not_both queue request left is goes (nil_from_length (window queue) (grind (arith, nat_tests))))
      | inr some ↦ grind (arith, nat_tests)
    ]

-- The first of the row may start where nothing is missing.
pub may_by_limit : (limit budget count : ℕ) → count ≤ MAX_BURST → can_start limit budget count ≡ nat_le (count * RATE_WINDOW - (limit * RATE_WINDOW + budget)) 0
may_by_limit limit budget count small = grind (arith, nat_tests)

normal_suffices : (limit budget count : ℕ) → limit ≤ MAX_BURST → count ≤ limit → can_start limit budget count ≡ true
normal_suffices limit budget count small within = grind (arith, nat_tests)

may_by : (config : QueueConfig) (budgets : Budgets) (priority : Priority) (count : ℕ) → IsConfig config → IsSure config priority count
    → may_start config budgets priority count ≡ nat_le (count * RATE_WINDOW - (limit_of config priority * RATE_WINDOW + budget_of budgets priority)) 0
may_by config budgets System count h sure = absurd sure
may_by config budgets Default count h sure = may_by_limit config.normal budgets.normal count sure
may_by config budgets Batch count h sure =
    rw (normal_suffices config.normal budgets.normal count h.normal_in_range sure.0, may_by_limit config.batch budgets.batch count (omega (arith, sure.0, h.normal_in_range))) (and-true _)

-- ---- a window that starts nothing

abbrev pub waited : {T : Type 0} → ℕ → Queue T → Queue T
waited elapsed queue = record queue { budgets = budgets_after queue.config queue.budgets elapsed [] queue.waiting }

pub after_idle : {T : Type 0} (elapsed : ℕ) (queue : Queue T) → window queue ≡ [] → after_window elapsed queue ≡ waited elapsed queue
after_idle elapsed queue idle = rw idle refl

-- What is missing falls by what the limit grants.
pub cut_missing : (elapsed limit budget count : ℕ) → count ≤ MAX_BURST
    → count * RATE_WINDOW - (limit * RATE_WINDOW + cut false (budget_after elapsed limit 0 budget)) ≡ count * RATE_WINDOW - (limit * RATE_WINDOW + budget) - elapsed * limit
cut_missing elapsed limit budget count small = grind (arith)

falls : {T : Type 0} (elapsed : ℕ) (queue : Queue T) (request : Req T) (priority : Priority) → IsConfig queue.config → IsSure queue.config priority request.count → IsWaiting priority queue.waiting
    → request.count * RATE_WINDOW - (limit_of queue.config priority * RATE_WINDOW + budget_of (waited elapsed queue).budgets priority)
    ≡ request.count * RATE_WINDOW - (limit_of queue.config priority * RATE_WINDOW + budget_of queue.budgets priority) - elapsed * limit_of queue.config priority
falls elapsed queue request System h sure waiting = absurd sure
falls elapsed queue request Default h sure waiting = rw waiting (cut_missing elapsed queue.config.normal queue.budgets.normal request.count sure)
falls elapsed queue request Batch h sure waiting = rw waiting (cut_missing elapsed queue.config.batch queue.budgets.batch request.count (omega (arith, sure.0, h.normal_in_range)))

next_missing : {T : Type 0} (elapsed : ℕ) (queue : Queue T) (request : Req T) (left : List (Req T)) → IsHead queue request left
    → missing (waited elapsed queue) request ≡ missing queue request - elapsed * limit_of queue.config request.priority
next_missing elapsed queue request left h = falls elapsed queue request request.priority h.config h.sure h.waiting

pub not_none : (n : ℕ) → 0 < n → nat_le n 0 ≡ false
not_none n some = grind (arith, nat_tests)

starts_where : {T : Type 0} (queue : Queue T) (request : Req T) (left : List (Req T)) → IsHead queue request left → missing queue request ≡ 0 → 0 < length (window queue)
starts_where queue request left h none = started queue request left h.row_is (may_by queue.config queue.budgets request.priority request.count h.config h.sure ∙ ap (λ it. nat_le it 0) none)

still_head : {T : Type 0} (elapsed : ℕ) (queue : Queue T) (request : Req T) (left : List (Req T)) → IsHead queue request left → IsHead (waited elapsed queue) request left
still_head elapsed queue request left h = record { row_is = h.row_is; config = h.config; sure = h.sure; waiting = h.waiting }

-- ---- how many windows start nothing

pub each_before : {T : Type 0} (elapsed : ℕ) (queue : Queue T) (count : ℕ) → window queue ≡ [] → StartsAfter elapsed (after_window elapsed queue) count
    → (before : ℕ) → before < suc count → window (after_windows elapsed before queue) ≡ []
each_before elapsed queue count idle rest zero less = idle
each_before elapsed queue count idle rest (suc before) less = rest.idle before (omega arith)

fewer : (n count step : ℕ) → n ≤ suc count * step → n - step ≤ count * step
fewer n count step enough = let more : suc count * step ≡ count * step + step = suc-mul count step in omega (arith, enough)

some_lacks : (n count step : ℕ) → suc count * step < n + step → 0 < n
some_lacks n count step needed = let more : suc count * step ≡ count * step + step = suc-mul count step in omega (arith, needed)

still_needed : (n count step : ℕ) → suc count * step < n + step → count * step < n - step + step
still_needed n count step needed = let more : suc count * step ≡ count * step + step = suc-mul count step in omega (arith, needed)

and_false : (b : Bool) → (b && false) ≡ false
and_false true = refl
and_false false = refl

held_by : (one other : ℕ) → (0 < one) ⊎ (0 < other) → (nat_le other 0 && nat_le one 0) ≡ false
held_by one other (inl some) = rw (not_none one some) (and_false (nat_le other 0))
held_by one other (inr some) = rw (not_none other some) refl

goes_by : (one other : ℕ) → one ≡ 0 → other ≡ 0 → (nat_le other 0 && nat_le one 0) ≡ true
goes_by one other no_one no_other = rw (no_one, no_other) refl

-- A head that lacks something of each of two rates, of which a window makes up for a step each.
module _ {T : Type 0} (elapsed : ℕ) (request : Req T) (left : List (Req T)) (Head : Queue T → Type 0) (one other : Queue T → ℕ) (a b : ℕ)
    (row_is : (queue : Queue T) → Head queue → row queue.waiting ≡ request ∷ left)
    (may : (queue : Queue T) → Head queue → may_start queue.config queue.budgets request.priority request.count ≡ (nat_le (other queue) 0 && nat_le (one queue) 0))
    (still : (queue : Queue T) → Head queue → Head (waited elapsed queue))
    (next_one : (queue : Queue T) → Head queue → one (waited elapsed queue) ≡ one queue - a)
    (next_other : (queue : Queue T) → Head queue → other (waited elapsed queue) ≡ other queue - b) where
  -- So many windows as it takes for the steps to make up for what it lacks.
  pub counted : (queue : Queue T) (count : ℕ) → Head queue → one queue ≤ count * a → other queue ≤ count * b
      → (0 < count → (count * a < one queue + a) ⊎ (count * b < other queue + b)) → StartsAfter elapsed queue count
  counted queue zero h by_one by_other needed = record {
    idle = λ before less. absurd (omega arith);
    starts = started queue request left (row_is queue h) (may queue h ∙ goes_by (one queue) (other queue) (omega (arith, by_one)) (omega (arith, by_other)));
  }
  counted queue (suc count) h by_one by_other needed =
      let due = needed (omega arith) in
      let some : (0 < one queue) ⊎ (0 < other queue) = elim due [ inl more ↦ inl (some_lacks (one queue) count a more) | inr more ↦ inr (some_lacks (other queue) count b more) ] in
      let idle = held queue request left (row_is queue h) (may queue h ∙ held_by (one queue) (other queue) some) in
      let rest : StartsAfter elapsed (waited elapsed queue) count =
      counted (waited elapsed queue) count (still queue h) (rw (next_one queue h) (fewer (one queue) count a by_one)) (rw (next_other queue h) (fewer (other queue) count b by_other))
      (λ _. elim due [ inl more ↦ inl (rw (next_one queue h) (still_needed (one queue) count a more)) | inr more ↦ inr (rw (next_other queue h) (still_needed (other queue) count b more)) ]) in
      let then : StartsAfter elapsed (after_window elapsed queue) count = rw (after_idle elapsed queue idle) rest in
      record {
        idle = each_before elapsed queue count idle then;
        starts = then.starts;
      }

-- ---- no more than that

one_more : (n count step : ℕ) → 0 < n → count * step < n - step + step → suc count * step < n + step
one_more n zero step some less = let one : suc zero * step ≡ zero * step + step = suc-mul zero step in let none : zero * step ≡ 0 = zero-mul step in omega arith
one_more n (suc count) step some less = grind (arith, common_steps, nat_tests)

pub idle_within : {T : Type 0} (elapsed : ℕ) (queue : Queue T) (request : Req T) (left : List (Req T)) (count step : ℕ) → IsHead queue request left
    → step ≡ elapsed * limit_of queue.config request.priority → 0 < step → ((before : ℕ) → before < count → window (after_windows elapsed before queue) ≡ []) → count * step < missing queue request + step
idle_within elapsed queue request left zero step h is grants idle = let none : zero * step ≡ 0 = zero-mul step in omega arith
idle_within elapsed queue request left (suc count) step h is grants idle =
    let here = idle 0 (omega arith) in
    let after = after_idle elapsed queue here in
    let next = next_missing elapsed queue request left h ∙ ap (λ it. missing queue request - it) (sym is) in
    let later_raw : count * step < missing (waited elapsed queue) request + step = idle_within elapsed (waited elapsed queue) request left count step (still_head elapsed queue request left h) is grants
    (λ before less. rw (← after) (idle (suc before) (omega arith))) in
    let later = rw next at later_raw in
    let some : 0 < missing queue request = elim (cases_lt 0 (missing queue request)) [
      | inl more ↦ more
      | inr none ↦ (let starts = starts_where queue request left h (omega arith) in let empty = ap (λ it. length it) here in absurd (omega arith))
    ] in
    one_more (missing queue request) count step some later

-- a product that is less than one and one more factor
pub below_factor : (a b step : ℕ) → a * step < b * step + step → a ≤ b
below_factor a b step less = grind arith

-- a limit that is not 0 grants something
granted : (elapsed : ℕ) (config : QueueConfig) (priority : Priority) (count : ℕ) → 1 ≤ elapsed → IsConfig config → IsSure config priority count → 0 < elapsed * limit_of config priority
granted elapsed config System count time h sure = absurd sure
granted elapsed config Default count time h sure = mul-pos time h.normal_some
granted elapsed config Batch count time h sure = mul-pos time sure.1

waiting_by : {T : Type 0} (config : QueueConfig) (system default_ batch : List (Req T)) (request : Req T) (left : List (Req T))
    → All (IsAdmitted config System) system → All (IsAdmitted config Default) default_ → All (IsAdmitted config Batch) batch
    → system ++ default_ ++ batch ≡ request ∷ left → IsSure config request.priority request.count
    → IsWaiting request.priority (record { system = system; default_ = default_; batch = batch })
waiting_by {T = T} config (x ∷ system) default_ batch request left ss ds bs is sure = grind (arith, common_steps, nat_tests)
waiting_by {T = T} config [] (x ∷ default_) batch request left ss ds bs is sure = grind (arith, common_steps, nat_tests)
waiting_by {T = T} config [] [] (x ∷ batch) request left ss ds bs is sure =
    let same : x ≡ request = cc in
    let own : request.priority ≡ Batch = sym (ap (λ (it : Req T). it.priority) same) ∙ (All-head (IsAdmitted config Batch) x batch bs).own in
    rw own (grind (arith, nat_tests))
waiting_by config [] [] [] request left ss ds bs is sure = cc

-- a head, by the lists
head_by : {T : Type 0} (queue : Queue T) (request : Req T) (left : List (Req T)) → IsQueue queue → row queue.waiting ≡ request ∷ left → IsSure queue.config request.priority request.count
    → IsHead queue request left
head_by queue request left h is sure = record { row_is = is; config = h.config; sure = sure; waiting = waiting_by queue.config queue.waiting.system queue.waiting.default_ queue.waiting.batch request left h.system h.default_ h.batch is sure }

-- whose own list it heads waits for the rate of its priority
waiting_in : {T : Type 0} (config : QueueConfig) (priority : Priority) (count : ℕ) (system default_ batch : List (Req T)) (request : Req T)
    → take 1 (list_of priority (record { system = system; default_ = default_; batch = batch })) ≡ request ∷ [] → IsSure config priority count
    → IsWaiting priority (record { system = system; default_ = default_; batch = batch })
waiting_in config System count system default_ batch request is sure = absurd sure
waiting_in config Default count system [] batch request is sure = cc
waiting_in config Default count system (x ∷ default_) batch request is sure = grind (arith, nat_tests)
waiting_in config Batch count system default_ [] request is sure = cc
waiting_in config Batch count system default_ (x ∷ batch) request is sure = grind (arith, nat_tests, length-append)

-- the first of the row waits no longer than its own rate takes to grant all of its count
bounded_by : {T : Type 0} (queue : Queue T) (request : Req T) (left : List (Req T)) (elapsed idle : ℕ) → IsHead queue request left → 1 ≤ elapsed
    → ((before : ℕ) → before < idle → window (after_windows elapsed before queue) ≡ []) → idle ≤ div_ceil (request.count * RATE_WINDOW) (elapsed * limit_of queue.config request.priority)
bounded_by queue request left elapsed idle here time all =
    let step = elapsed * limit_of queue.config request.priority in
    let grants : 0 < step = granted elapsed queue.config request.priority request.count time here.config here.sure in
    let within = idle_within elapsed queue request left idle step here refl grants all in
    let ceil = (div_ceil_times (request.count * RATE_WINDOW) step grants).0 in
    below_factor idle (div_ceil (request.count * RATE_WINDOW) step) step (omega arith)

pub bounded : {T : Type 0} (queue : Queue T) (budgets : Budgets) (request : Req T) (left : List (Req T)) (elapsed idle : ℕ)
    → IsConfig queue.config → 1 ≤ elapsed → row queue.waiting ≡ request ∷ left → take 1 (list_of request.priority queue.waiting) ≡ request ∷ []
    → IsSure queue.config request.priority request.count
    → ((before : ℕ) → before < idle → window (after_windows elapsed before (record queue { budgets = budgets })) ≡ [])
    → idle ≤ div_ceil (request.count * RATE_WINDOW) (elapsed * limit_of queue.config request.priority)
bounded queue budgets request left elapsed idle config time is own sure all =
    bounded_by (record queue { budgets = budgets }) request left elapsed idle
    (record {
      row_is = is;
      config = config;
      sure = sure;
      waiting = waiting_in queue.config request.priority request.count queue.waiting.system queue.waiting.default_ queue.waiting.batch request own sure;
    })
    time all

-- ---- the number that is computed

pub first_split : {X : Type 0} (xs : List X) (x : X) → first xs ≡ Some x → (left : List X) × (xs ≡ x ∷ left)
first_split [] x h = cc
first_split (y ∷ ys) x h = (ys, (let same : y ≡ x = cc in rw same refl))

pub count_of : {T : Type 0} (queue : Queue T) (request : Req T) → IsQueue queue → first (row queue.waiting) ≡ Some request → request.count ≤ MAX_COUNT
count_of {T = T} queue request h is =
    let split = first_split (row queue.waiting) request is in
    let Small : Req T → Type 0 = λ it. it.count ≤ MAX_COUNT in
    let all : All Small (row queue.waiting) = counts_in_row queue h in
    All-head Small request split.0 (rw split.1 at all)

pub within : {T : Type 0} (queue : Queue T) (request : Req T) (elapsed count : ℕ) → IsQueue queue → 1 ≤ elapsed → first (row queue.waiting) ≡ Some request
    → IsSure queue.config request.priority request.count → StartsAfter elapsed queue count → count ≤ div_ceil (request.count * RATE_WINDOW) (elapsed * limit_of queue.config request.priority)
within queue request elapsed count h time is sure exact =
    let split = first_split (row queue.waiting) request is in
    bounded_by queue request split.0 elapsed count (head_by queue request split.0 h split.1 sure) time exact.idle

-- a default request waits until nothing is missing by the normal rate
pub default_held : {T : Type 0} (queue : Queue T) (request : Req T) (elapsed count : ℕ) → IsQueue queue → 1 ≤ elapsed → first (row queue.waiting) ≡ Some request → request.priority ≡ Default
    → count ≡ div_ceil (lacking queue.config.normal queue.budgets.normal request.count) (elapsed * queue.config.normal) → StartsAfter elapsed queue count
default_held {T = T} queue request elapsed count h time is own count_is =
    let split = first_split (row queue.waiting) request is in
    let sure : IsSure queue.config request.priority request.count = rw own (count_of queue request h is) in
    let step = elapsed * limit_of queue.config request.priority in
    let Head : Queue T → Type 0 = λ it. IsHead it request split.0 × (step ≡ elapsed * limit_of it.config request.priority) in
    let next : (it : Queue T) → Head it → missing (waited elapsed it) request ≡ missing it request - step = λ it here. next_missing elapsed it request split.0 here.0 ∙ ap (λ n. missing it request - n) (sym here.1) in
    let ceil = div_ceil_times (missing queue request) step (granted elapsed queue.config request.priority request.count time h.config sure) in
    let number : count ≡ div_ceil (missing queue request) step = rw own count_is in
    rw number
    (counted elapsed request split.0 Head (λ it. missing it request) (λ it. missing it request) step step (λ it here. here.0.row_is)
    (λ it here. may_by it.config it.budgets request.priority request.count here.0.config here.0.sure ∙ both_same (nat_le (missing it request) 0))
    (λ it here. (still_head elapsed it request split.0 here.0, here.1)) next next
    queue (div_ceil (missing queue request) step) (head_by queue request split.0 h split.1 sure, refl) ceil.0 ceil.0 (λ _. inl ceil.1))
  where
    both_same : (b : Bool) → b ≡ (b && b)
    both_same true = refl
    both_same false = refl
