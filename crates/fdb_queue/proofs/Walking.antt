-- A walk that goes along the row starts the window.
use Rattle.std.proofs.Common.{◌≡◌, ℕ, suc, ◌+◌, ◌-◌, ◌≤◌, ◌<◌, ◌&&◌, ◌⊎◌, inl, inr, Bool, true, false, List, [], ◌∷◌, ◌++◌, length, take, Some, fold, refl, sym, ap, ◌∙◌, arith, add-zero, length-append, append_assoc}
use Rattle.std.specs.Prelude.{nat_lt, find, unwrap_or}
use Rattle.std.proofs.lemmas.Grind.{common_steps}
use Rattle.std.proofs.lemmas.Bool.Decides.{nat_tests}
use Rattle.std.proofs.lemmas.Bool.{cases_Bool}
use Rattle.std.proofs.lemmas.List.{append-nil, take-append-le, take_all, take_at}
use Rattle.std.proofs.Math.Seq.{take-append-add}
use Rattle.std.proofs.lemmas.List.Folds.{fold_stays}
use Rattle.std.proofs.lemmas.List.Sums.{fold-append, sum_by-append, sum_by_push}
use Rattle.fdb_queue.specs.declared.window.Budgets.{Budgets}
use Rattle.fdb_queue.specs.declared.config.QueueConfig.{QueueConfig}
use Rattle.fdb_queue.specs.declared.config.TheConstants.{MAX_STARTED}
use Rattle.fdb_queue.specs.declared.waiting.Req.{Req}
use Rattle.fdb_queue.specs.declared.window.Walk.{Walk}
use Rattle.fdb_queue.specs.Queue.{Queue}
use Rattle.fdb_queue.specs.private.Reach.{IsReach}
use Rattle.fdb_queue.specs.private.Walk.{walk_after, IsWithinLimits}
use Rattle.fdb_queue.specs.Waiting.{row, total}
use Rattle.fdb_queue.specs.Window.{may_start, prefixes, fits}
use Rattle.fdb_queue.proofs.Fitting.{total-cons, fits-more, fits-push}
use Rattle.fdb_queue.proofs.LongestPrefix.{find_longest}

-- ---- one step of a walk

-- a walk that has ended stays as it is
pub ended_stays : {T : Type 0} (config : QueueConfig) (budgets : Budgets) (walk : Walk) (request : Req T) → walk.ended ≡ true → walk_after config budgets walk request ≡ walk
ended_stays config budgets walk request ended = rw ended refl

-- whether a walk goes on with a request
abbrev goes_on : {T : Type 0} → QueueConfig → Budgets → Walk → Req T → Bool
goes_on config budgets walk request = nat_lt walk.requests MAX_STARTED && may_start config budgets request.priority (walk.transactions + request.count)

abbrev grown : {T : Type 0} → Walk → Req T → Walk
grown walk request = record { requests = walk.requests + 1; transactions = walk.transactions + request.count; ended = false }

abbrev ended_at : Walk → Walk
ended_at walk = record walk { ended = true }

starts_it : {T : Type 0} (config : QueueConfig) (budgets : Budgets) (walk : Walk) (request : Req T) → walk.ended ≡ false → goes_on config budgets walk request ≡ true
    → walk_after config budgets walk request ≡ grown walk request
starts_it config budgets walk request runs goes = rw (runs, goes) refl

ends_there : {T : Type 0} (config : QueueConfig) (budgets : Budgets) (walk : Walk) (request : Req T) → walk.ended ≡ false → goes_on config budgets walk request ≡ false
    → walk_after config budgets walk request ≡ ended_at walk
ends_there config budgets walk request runs stops = rw (runs, stops) refl

-- a walk that ends does not go on
ended_fold : {T : Type 0} (config : QueueConfig) (budgets : Budgets) (walk : Walk) (requests : List (Req T)) → walk.ended ≡ true → fold (walk_after config budgets) walk requests ≡ walk
ended_fold config budgets walk requests ended = fold_stays (walk_after config budgets) walk (λ request. ended_stays config budgets walk request ended) requests

-- ---- a walk along a list

-- what a walk comes to along a list
pub record IsPart {T : Type 0} (walk after : Walk) (requests : List (Req T)) : Type 0 where
  pub grows : walk.requests ≤ after.requests
  pub within : after.requests ≤ walk.requests + length requests
  pub whole : after.ended ≡ false → after.requests ≡ walk.requests + length requests
  pub stays : walk.ended ≡ true → after ≡ walk
  pub counts : after.transactions ≡ walk.transactions + total (take (after.requests - walk.requests) requests)

-- it starts nothing of it
nothing_started : {T : Type 0} (walk after : Walk) (requests : List (Req T)) → after.requests ≡ walk.requests → after.transactions ≡ walk.transactions
    → (after.ended ≡ false → 0 ≡ length requests) → (walk.ended ≡ true → after ≡ walk) → IsPart walk after requests
nothing_started walk after requests same_requests same_transactions whole stays = grind (arith, common_steps, nat_tests)

-- it starts the first of it
first_started : {T : Type 0} (walk after : Walk) (x : Req T) (xs : List (Req T)) → walk.ended ≡ false → IsPart (grown walk x) after xs → IsPart walk after (x ∷ xs)
first_started walk after x xs runs rest =
    let one : after.requests - walk.requests ≡ suc (after.requests - (walk.requests + 1)) = omega arith in
    record {
      grows = omega arith;
      within = omega arith;
      whole = λ r. (let all = rest.whole r in omega arith);
      stays = λ ended. cc;
      counts = rw one (omega (arith, rest.counts, total-cons x (take (after.requests - (walk.requests + 1)) xs)));
    }

part : {T : Type 0} (config : QueueConfig) (budgets : Budgets) (walk : Walk) (requests : List (Req T)) → IsPart walk (fold (walk_after config budgets) walk requests) requests
part config budgets walk [] = nothing_started walk walk [] refl refl (λ _. refl) (λ _. refl)
part config budgets walk (x ∷ xs) =
    elim (cases_Bool walk.ended) [
      | inl ended ↦ rw (ended_fold config budgets walk (x ∷ xs) ended) (nothing_started walk walk (x ∷ xs) refl refl (λ runs. cc) (λ _. refl))
      | inr runs ↦ elim (cases_Bool (goes_on config budgets walk x)) [
        | inl goes ↦ rw (starts_it config budgets walk x runs goes) (first_started walk (fold (walk_after config budgets) (grown walk x) xs) x xs runs (part config budgets (grown walk x) xs))
        | inr stops ↦ rw (ends_there config budgets walk x runs stops, ended_fold config budgets (ended_at walk) xs refl)
            (nothing_started walk (ended_at walk) (x ∷ xs) refl refl (λ r. cc) (λ ended. cc))
      ]
    ]

pub never_shrinks : {T : Type 0} (config : QueueConfig) (budgets : Budgets) (walk after : Walk) (requests : List (Req T)) → after ≡ fold (walk_after config budgets) walk requests
    → walk.requests ≤ after.requests
never_shrinks config budgets walk after requests is =
    let along : IsPart walk after requests = rw is (part config budgets walk requests) in
    along.grows

-- ---- a walk along the row

abbrev pub longest : {T : Type 0} → Queue T → List (Req T) → List (Req T)
longest queue requests = unwrap_or (find (λ some. fits queue some) (prefixes requests)) []

-- a walk that has started some requests
abbrev walk_of : {T : Type 0} → List (Req T) → Walk
walk_of done = record { requests = length done; transactions = total done; ended = false }

-- a walk has started the window of a row
pub record IsWalked {T : Type 0} (queue : Queue T) (requests : List (Req T)) (walk : Walk) : Type 0 where
  pub started : longest queue requests ≡ take walk.requests requests
  pub transactions : walk.transactions ≡ total (take walk.requests requests)

walked_at : {T : Type 0} (queue : Queue T) (done rest : List (Req T)) (walk : Walk) → walk.requests ≡ length done → walk.transactions ≡ total done
    → find (λ some. fits queue some) (prefixes (done ++ rest)) ≡ Some done → IsWalked queue (done ++ rest) walk
walked_at queue done rest walk requests transactions found = grind (arith, common_steps, nat_tests)

walk_on : {T : Type 0} (queue : Queue T) (done rest : List (Req T)) → fits queue done ≡ true
    → IsWalked queue (done ++ rest) (fold (walk_after queue.config queue.budgets) (walk_of done) rest)
walk_on queue done [] fit = walked_at queue done [] (walk_of done) refl refl (find_longest (λ some. fits queue some) done [] fit tt)
walk_on {T = T} queue done (x ∷ xs) fit =
    elim (cases_Bool (goes_on queue.config queue.budgets (walk_of done) x)) [
      | inl goes ↦
          (let same : grown (walk_of done) x ≡ walk_of (done ++ x ∷ []) = rw (length-append done (x ∷ []), sum_by_push (λ request. request.count) done x) refl in
          let next : IsWalked queue (done ++ x ∷ [] ++ xs) (fold (walk_after queue.config queue.budgets) (walk_of (done ++ x ∷ [])) xs) = walk_on queue (done ++ x ∷ []) xs (fits-push queue done x fit goes) in
          rw (starts_it queue.config queue.budgets (walk_of done) x refl goes, same) (rw append_assoc at next))
      | inr stops ↦ rw (ends_there queue.config queue.budgets (walk_of done) x refl stops, ended_fold queue.config queue.budgets (ended_at (walk_of done)) xs refl)
          (walked_at queue done (x ∷ xs) (ended_at (walk_of done)) refl refl (find_longest (λ some. fits queue some) done (x ∷ xs) fit (λ more. fits-more queue done more x stops)))
    ]

-- ---- the window, and the head of what is left

-- the head of what is left may not start, unless as many have started as may
abbrev pub Blocked : {T : Type 0} → Queue T → List (Req T) → List (Req T) → Type 0
Blocked queue started [] = Unit {0}
Blocked queue started (x ∷ xs) = (nat_lt (length started) MAX_STARTED && may_start queue.config queue.budgets x.priority (total started + x.count)) ≡ false

-- a row is what a window starts, and what is left
pub record IsCut {T : Type 0} (queue : Queue T) (requests left : List (Req T)) : Type 0 where
  pub both : requests ≡ longest queue requests ++ left
  pub fit : fits queue (longest queue requests) ≡ true
  pub blocked : Blocked queue (longest queue requests) left

cut_here : {T : Type 0} (queue : Queue T) (done rest : List (Req T)) → longest queue (done ++ rest) ≡ done → fits queue done ≡ true → Blocked queue done rest
    → IsCut queue (done ++ rest) rest
cut_here queue done rest is fit blocked = grind (arith, common_steps, nat_tests)

pub cut_at : {T : Type 0} (queue : Queue T) (done rest : List (Req T)) → fits queue done ≡ true → (left : List (Req T)) × IsCut queue (done ++ rest) left
cut_at queue done [] fit = ([], cut_here queue done [] (rw (find_longest (λ some. fits queue some) done [] fit tt) refl) fit tt)
cut_at {T = T} queue done (x ∷ xs) fit =
    elim (cases_Bool (goes_on queue.config queue.budgets (walk_of done) x)) [
      | inl goes ↦
          (let next : (left : List (Req T)) × IsCut queue (done ++ x ∷ [] ++ xs) left = cut_at queue (done ++ x ∷ []) xs (fits-push queue done x fit goes) in rw append_assoc at next)
      | inr stops ↦ (x ∷ xs, cut_here queue done (x ∷ xs) (rw (find_longest (λ some. fits queue some) done (x ∷ xs) fit (λ more. fits-more queue done more x stops)) refl) fit stops)
    ]

pub window_cut : {T : Type 0} (queue : Queue T) → (left : List (Req T)) × IsCut queue (row queue.waiting) left
window_cut queue = cut_at queue [] (row queue.waiting) refl

-- ---- the three lists

less_or_same : (a b : ℕ) → a ≤ b → (a < b) ⊎ (a ≡ b)
less_or_same a b h = grind arith

ended_in : {X : Type 0} (xs ys : List X) (a b c : ℕ) → a ≤ length xs → b ≤ length ys → (a < length xs → b + c ≡ 0) → (b < length ys → c ≡ 0) → a + b < length xs + length ys → c ≡ 0
ended_in xs ys a b c in_xs in_ys past past_two less = grind arith

take_two : {X : Type 0} (xs ys : List X) (a b : ℕ) → a ≤ length xs → (a < length xs → b ≡ 0) → take (a + b) (xs ++ ys) ≡ take a xs ++ take b ys
take_two xs ys a b within rest = elim (less_or_same a (length xs) within) [
  | inl less ↦ (let none = rest less in rw (none, add-zero, append-nil) (take-append-le a xs ys within))
  | inr same ↦ rw (same, take-append-add xs ys b, take_all (length xs) xs (omega arith)) refl
]

take_three : {X : Type 0} (xs ys zs : List X) (a b c : ℕ) → a ≤ length xs → b ≤ length ys → (a < length xs → b + c ≡ 0) → (b < length ys → c ≡ 0)
    → take (a + b + c) (xs ++ ys ++ zs) ≡ take a xs ++ take b ys ++ take c zs
take_three xs ys zs a b c in_xs in_ys past past_two =
    let within : a + b ≤ length (xs ++ ys) = omega (arith, length-append xs ys) in
    take_two (xs ++ ys) zs (a + b) c within (λ less. ended_in xs ys a b c in_xs in_ys past past_two (rw (length-append xs ys) at less))
    ∙ ap (λ some. some ++ take c zs) (take_two xs ys a b in_xs (λ less. (let none = past less in omega arith)))

abbrev new_walk : Walk
new_walk = record { requests = 0; transactions = 0; ended = false }

walk_row : {T : Type 0} (queue : Queue T) → IsWalked queue (row queue.waiting) (fold (walk_after queue.config queue.budgets) new_walk (row queue.waiting))
walk_row queue = walk_on queue [] (row queue.waiting) refl

-- where a walk has stopped in a list, it starts nothing of the lists after it
stopped_second : {T : Type 0} (system default_ batch : Walk) (ds bs : List (Req T)) → IsPart system default_ ds → IsPart default_ batch bs
    → default_.requests - system.requests < length ds → batch.requests - default_.requests ≡ 0
stopped_second system default_ batch ds bs second third less = grind (arith, common_steps, nat_tests)

stopped_first : {T : Type 0} (system default_ batch : Walk) (ss ds bs : List (Req T)) → IsPart new_walk system ss → IsPart system default_ ds → IsPart default_ batch bs
    → system.requests < length ss → default_.requests - system.requests + (batch.requests - default_.requests) ≡ 0
stopped_first system default_ batch ss ds bs first second third less = grind (arith, common_steps, nat_tests)

pub reach_is : {T : Type 0} (queue : Queue T) (system default_ batch : Walk)
    → system ≡ fold (walk_after queue.config queue.budgets) (record { requests = 0; transactions = 0; ended = false }) queue.waiting.system
    → default_ ≡ fold (walk_after queue.config queue.budgets) system queue.waiting.default_
    → batch ≡ fold (walk_after queue.config queue.budgets) default_ queue.waiting.batch
    → IsWithinLimits default_ → IsWithinLimits batch
    → IsReach queue (record {
      counts = record { system = system.requests; default_ = default_.requests - system.requests; batch = batch.requests - default_.requests };
      unbatched = default_.transactions;
      all = batch.transactions;
    })
reach_is queue system default_ batch system_is default_is batch_is default_turn batch_turn =
    let first : IsPart new_walk system queue.waiting.system = rw system_is (part queue.config queue.budgets new_walk queue.waiting.system) in
    let second : IsPart system default_ queue.waiting.default_ = rw default_is (part queue.config queue.budgets system queue.waiting.default_) in
    let third : IsPart default_ batch queue.waiting.batch = rw batch_is (part queue.config queue.budgets default_ queue.waiting.batch) in
    let along : fold (walk_after queue.config queue.budgets) new_walk (row queue.waiting) ≡ batch =
    fold-append (walk_after queue.config queue.budgets) new_walk (queue.waiting.system ++ queue.waiting.default_) queue.waiting.batch
    ∙ ap (λ walk. fold (walk_after queue.config queue.budgets) walk queue.waiting.batch) (fold-append (walk_after queue.config queue.budgets) new_walk queue.waiting.system queue.waiting.default_)
    ∙ rw (batch_is, default_is, system_is) refl in
    let all : IsWalked queue (row queue.waiting) (fold (walk_after queue.config queue.budgets) new_walk (row queue.waiting)) = walk_row queue in
    let walked : IsWalked queue (row queue.waiting) batch = rw along at all in
    let sum : system.requests + (default_.requests - system.requests) + (batch.requests - default_.requests) ≡ batch.requests = omega (arith, second.grows, third.grows) in
    let from_none : system.requests - 0 ≡ system.requests = omega arith in
    let three = take_three queue.waiting.system queue.waiting.default_ queue.waiting.batch system.requests (default_.requests - system.requests) (batch.requests - default_.requests)
    (omega (arith, first.within)) (omega (arith, second.within))
    (λ less. stopped_first system default_ batch queue.waiting.system queue.waiting.default_ queue.waiting.batch first second third less)
    (λ less. stopped_second system default_ batch queue.waiting.default_ queue.waiting.batch second third less) in
    record {
      system = omega (arith, first.within);
      default_ = omega (arith, second.within);
      batch = omega (arith, third.within);
      requests = omega (arith, sum, batch_turn.requests);
      started = walked.started ∙ rw sum at three;
      unbatched = second.counts ∙ rw (sum_by-append (λ request. request.count) (take system.requests queue.waiting.system) (take (default_.requests - system.requests) queue.waiting.default_)) (omega (arith, rw from_none at first.counts));
      all = walked.transactions ∙ sym (ap (λ some. total some) walked.started);
      unbatched_in_range = omega (arith, default_turn.requests, default_turn.transactions);
      all_in_range = omega (arith, batch_turn.requests, batch_turn.transactions);
    }
