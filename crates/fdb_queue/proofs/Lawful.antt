-- Laws of windows.
use Rattle.std.proofs.Common.{◌≡◌, ℕ, suc, ◌+◌, ◌-◌, ◌*◌, ◌≤◌, ◌<◌, ◌&&◌, ◌⊎◌, inl, inr, true, false, List, [], ◌∷◌, ◌++◌, length, take, refl, sym, ap, ◌∙◌, arith, length-append}
use Rattle.std.specs.Prelude.{nat_le, nat_lt, All}
use Rattle.std.proofs.lemmas.Bool.{and_parts, and_cases}
use Rattle.std.proofs.lemmas.Bool.Decides.{nat_tests}
use Rattle.std.proofs.lemmas.List.{take_at, append_cancel_left}
use Rattle.std.proofs.Math.Seq.{take-append-add}
use Rattle.std.proofs.lemmas.List.Elements.{All-head, All-tail, All-take, All-append, All-weaker, All-same}
use Rattle.fdb_history.specs.declared.log.Priority.{Priority}
use Rattle.fdb_history.specs.declared.log.Priority.TheVariants.{System, Default, Batch}
use Rattle.fdb_queue.specs.declared.config.QueueConfig.{QueueConfig}
use Rattle.fdb_queue.specs.declared.config.TheConstants.{MAX_STARTED, MAX_COUNT}
use Rattle.fdb_queue.specs.declared.waiting.Req.{Req}
use Rattle.fdb_queue.specs.Admission.{is_count}
use Rattle.fdb_queue.specs.Kept.{IsQueue, IsAdmitted}
use Rattle.fdb_queue.specs.Queue.{Queue}
use Rattle.fdb_queue.specs.Waiting.{row, total}
use Rattle.fdb_queue.specs.Window.{may_start, fits, window}
use Rattle.fdb_queue.proofs.Fitting.{each_may_start, total-cons, each_after, fits-append, fits-more}
use Rattle.fdb_queue.proofs.Walking.{window_cut, Blocked}

pub prefix : {T : Type 0} (queue : Queue T) → window queue ≡ take (length (window queue)) (row queue.waiting)
prefix queue =
    let cut = window_cut queue in
    sym (take_at (window queue) cut.0 (length (window queue)) refl) ∙ ap (λ some. take (length (window queue)) some) (sym cut.1.both)

fit_window : {T : Type 0} (queue : Queue T) → fits queue (window queue) ≡ true
fit_window queue = (window_cut queue).1.fit

pub in_range : {T : Type 0} (queue : Queue T) → length (window queue) ≤ MAX_STARTED
in_range queue =
    let room = (and_parts (nat_le (length (window queue)) MAX_STARTED) (each_may_start queue.config queue.budgets (window queue)) (fit_window queue)).0 in
    grind (arith, nat_tests)

pub starts : {T : Type 0} (queue : Queue T) (before after : List (Req T)) (request : Req T) → window queue ≡ before ++ request ∷ after
    → may_start queue.config queue.budgets request.priority (total before + request.count) ≡ true
starts queue before after request is =
    let whole = sym (fits-append queue before after request) ∙ sym (ap (λ some. fits queue some) is) ∙ fit_window queue in
    let later = (and_parts (nat_le (length (before ++ request ∷ after)) MAX_STARTED)
    (each_after queue.config queue.budgets 0 before && (may_start queue.config queue.budgets request.priority (total before + request.count) && each_after queue.config queue.budgets (total before + request.count) after)) whole).1 in
    let here = (and_parts (each_after queue.config queue.budgets 0 before)
    (may_start queue.config queue.budgets request.priority (total before + request.count) && each_after queue.config queue.budgets (total before + request.count) after) later).1 in
    (and_parts (may_start queue.config queue.budgets request.priority (total before + request.count)) (each_after queue.config queue.budgets (total before + request.count) after) here).0

pub head : {T : Type 0} (queue : Queue T) (left : List (Req T)) (next : Req T) → row queue.waiting ≡ window queue ++ next ∷ left
    → (length (window queue) ≡ MAX_STARTED) ⊎ (may_start queue.config queue.budgets next.priority (total (window queue) + next.count) ≡ false)
head queue left next is =
    let cut = window_cut queue in
    let same = append_cancel_left (window queue) cut.0 (next ∷ left) (sym cut.1.both ∙ is) in
    let blocked : Blocked queue (window queue) (next ∷ left) = rw same at cut.1.blocked in
    let room = in_range queue in
    elim (and_cases (nat_lt (length (window queue)) MAX_STARTED) (may_start queue.config queue.budgets next.priority (total (window queue) + next.count)) blocked) [
      | inl full ↦ inl (grind (arith, nat_tests))
      | inr held ↦ inr held
    ]

longer_than : {T : Type 0} (queue : Queue T) (started left : List (Req T)) (count : ℕ) → Blocked queue started left → length started < count → count ≤ length (started ++ left)
    → fits queue (take count (started ++ left)) ≡ false
longer_than queue started [] count blocked more within = absurd (omega (arith, length-append started []))
longer_than queue started (x ∷ xs) count blocked more within =
    let further : count ≡ length started + suc (count - length started - 1) = omega arith in
    rw (further, take-append-add started (x ∷ xs) (suc (count - length started - 1))) (fits-more queue started (take (count - length started - 1) xs) x blocked)

pub longer : {T : Type 0} (queue : Queue T) (count : ℕ) → length (window queue) < count → count ≤ length (row queue.waiting) → fits queue (take count (row queue.waiting)) ≡ false
longer queue count more within =
    let cut = window_cut queue in
    ap (λ some. fits queue (take count some)) cut.1.both ∙ longer_than queue (window queue) cut.0 count cut.1.blocked more (rw cut.1.both at within)

-- ---- sums of counts

total_within : {T : Type 0} (requests : List (Req T)) → All (λ request. request.count ≤ MAX_COUNT) requests → total requests ≤ length requests * MAX_COUNT
total_within [] all = omega arith
total_within (x ∷ xs) all =
    omega (arith, total-cons x xs, All-head (λ request. request.count ≤ MAX_COUNT) x xs all, total_within xs (All-tail (λ request. request.count ≤ MAX_COUNT) x xs all))

count_within : {T : Type 0} (config : QueueConfig) (priority : Priority) (request : Req T) → is_count config priority request.count ≡ true → request.count ≤ MAX_COUNT
count_within config System request h = grind (arith, nat_tests)
count_within config _ request h = grind (arith, nat_tests)

counts_of : {T : Type 0} (config : QueueConfig) (priority : Priority) (requests : List (Req T)) → All (IsAdmitted config priority) requests → All (λ request. request.count ≤ MAX_COUNT) requests
counts_of {T = T} config priority requests all = All-weaker (IsAdmitted {T = T} config priority) (λ request. request.count ≤ MAX_COUNT) (λ request admitted. count_within config priority request admitted.count) requests all

pub counts_in_row : {T : Type 0} (queue : Queue T) → IsQueue queue → All (λ request. request.count ≤ MAX_COUNT) (row queue.waiting)
counts_in_row {T = T} queue h =
    let Small : Req T → Type 0 = λ request. request.count ≤ MAX_COUNT in
    All-append Small (queue.waiting.system ++ queue.waiting.default_) queue.waiting.batch
    (All-append Small queue.waiting.system queue.waiting.default_ (counts_of queue.config System queue.waiting.system h.system) (counts_of queue.config Default queue.waiting.default_ h.default_))
    (counts_of queue.config Batch queue.waiting.batch h.batch)

pub bounded : {T : Type 0} (queue : Queue T) → IsQueue queue → total (window queue) ≤ 1000000000
bounded {T = T} queue h =
    let Small : Req T → Type 0 = λ request. request.count ≤ MAX_COUNT in
    let started = All-same Small (window queue) (take (length (window queue)) (row queue.waiting)) (prefix queue) (All-take Small (length (window queue)) (row queue.waiting) (counts_in_row queue h)) in
    omega (arith, total_within (window queue) started, in_range queue)
