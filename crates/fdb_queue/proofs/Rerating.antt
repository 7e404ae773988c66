-- Requests that wait under other rates.
use Rattle.std.proofs.Common.{◌≡◌, ℕ, ◌+◌, ◌<◌, ◌≤◌, ◌==◌, true, false, List, [], ◌∷◌, ◌++◌, length, take, drop, get_or, Option, None, Some, refl, sym, ap, ◌∙◌, arith, suc, append_assoc, length-append, map}
use Rattle.std.specs.Prelude.{if◌then◌else◌, not, option_map, All, IsPermutation}
use Rattle.std.specs.List.{cons_option, slice_index_or}
use Rattle.std.proofs.lemmas.Grind.{common_steps}
use Rattle.std.proofs.lemmas.Bool.Decides.{nat_tests}
use Rattle.std.proofs.lemmas.List.{take_more, drop_more, append-nil}
use Rattle.std.proofs.lemmas.List.Elements.{All-cons, All-filter, All-head, All-nil, All-tail, filter-append, filter_map-append, filter_passes}
use Rattle.std.proofs.lemmas.List.Sorted.{IsPermutation-sym, IsPermutation-cons, IsPermutation-trans, IsPermutation-middle, IsPermutation-refl}
use Rattle.fdb_history.specs.declared.log.Priority.{Priority}
use Rattle.fdb_history.specs.declared.log.Priority.TheVariants.{System, Default, Batch}
use Rattle.fdb_queue.specs.declared.config.QueueConfig.{QueueConfig}
use Rattle.fdb_queue.specs.declared.error.QueueError.{QueueError}
use Rattle.fdb_queue.specs.declared.error.QueueError.TheVariants.{BadCount, BatchThrottled}
use Rattle.fdb_queue.specs.declared.waiting.Req.{Req}
use Rattle.fdb_queue.specs.declared.waiting.TurnedAway.{TurnedAway}
use Rattle.fdb_queue.specs.Admission.{is_count, is_throttled}
use Rattle.fdb_queue.specs.Config.{IsConfig}
use Rattle.fdb_queue.specs.Kept.{IsAdmitted, IsQueue}
use Rattle.fdb_queue.specs.NewRates.{refusal_under, may_wait, turned_away, turned_away_from, staying, under_rates, with_rates}
use Rattle.fdb_queue.specs.Queue.{Queue}
use Rattle.fdb_queue.specs.Waiting.{row}

-- a new queue is not full
has_room : (room : ℕ) → 1 ≤ room → (0 == room) ≡ false
has_room room some = grind (arith, nat_tests)

pub refusal_by_rates : {T : Type 0} (config : QueueConfig) (request : Req T) → 1 ≤ config.room
    → refusal_under config request ≡ (if not (is_count config request.priority request.count) then Some BadCount else if is_throttled config request.priority then Some BatchThrottled else None)
refusal_by_rates config request some = rw (has_room config.room some) refl

-- the next of a list whose first ones were moved behind it
pub record IsNextOf {X : Type 0} (xs moved rest : List X) (place : ℕ) (x : X) : Type 0 where
  pub taken : take (place + 1) xs ≡ take place xs ++ x ∷ []
  pub left : drop place xs ≡ x ∷ drop (place + 1) xs
  pub rest_is : rest ≡ drop (place + 1) xs ++ moved

pub next_of : {X : Type 0} (xs moved rest : List X) (place : ℕ) (x : X) → place < length xs → drop place xs ++ moved ≡ x ∷ rest → IsNextOf xs moved rest place x
next_of xs moved rest place x within is =
    let next = drop_more xs place x within in
    let both : get_or xs place x ∷ (drop (place + 1) xs ++ moved) ≡ x ∷ rest = sym (ap (λ some. some ++ moved) next) ∙ is in
    let same : get_or xs place x ≡ x = cc in
    let left : drop (place + 1) xs ++ moved ≡ rest = cc in
    record {
      taken = rw same at (take_more xs place x within);
      left = rw same at next;
      rest_is = sym left;
    }

-- no more are turned away than there are
pub turned_away-le : {T : Type 0} (config : QueueConfig) (requests : List (Req T)) → length (turned_away config requests) ≤ length requests
turned_away-le config [] = omega arith
turned_away-le config (x ∷ xs) = elim (refusal_under config x) as (λ why. length (cons_option (option_map (λ cause. (record { cause = cause; request = x })) why) (turned_away config xs)) ≤ suc (length xs)) [
  | None ↦ omega (arith, turned_away-le config xs)
  | Some cause ↦ omega (arith, turned_away-le config xs)
]

pub turned_away-none : {T : Type 0} (config : QueueConfig) (x : Req T) (xs : List (Req T)) → refusal_under config x ≡ None → turned_away config (x ∷ xs) ≡ turned_away config xs
turned_away-none config x xs none = rw none refl

pub turned_away-some : {T : Type 0} (config : QueueConfig) (x : Req T) (xs : List (Req T)) (cause : QueueError) → refusal_under config x ≡ Some cause → turned_away config (x ∷ xs) ≡ (record { cause = cause; request = x }) ∷ turned_away config xs
turned_away-some config x xs cause some = rw some refl

pub staying-none : {T : Type 0} (config : QueueConfig) (x : Req T) → refusal_under config x ≡ None → staying config (x ∷ []) ≡ x ∷ []
staying-none config x none = rw none refl

pub staying-some : {T : Type 0} (config : QueueConfig) (x : Req T) (cause : QueueError) → refusal_under config x ≡ Some cause → staying config (x ∷ []) ≡ []
staying-some config x cause some = rw some refl

-- how far a list has been gone through: of its first ones those that may wait were moved behind it
pub record IsSifted {T : Type 0} (config : QueueConfig) (list now : List (Req T)) (before out : List (TurnedAway T)) (place : ℕ) : Type 0 where
  pub list_is : now ≡ drop place list ++ staying config (take place list)
  pub out_is : out ≡ before ++ turned_away config (take place list)

-- the parts of a list with one more
staying-more : {T : Type 0} (config : QueueConfig) (requests : List (Req T)) (x : Req T) → staying config (requests ++ x ∷ []) ≡ staying config requests ++ staying config (x ∷ [])
staying-more config requests x = filter-append (λ request. may_wait config request) requests (x ∷ [])

turned_away-more : {T : Type 0} (config : QueueConfig) (requests : List (Req T)) (x : Req T) → turned_away config (requests ++ x ∷ []) ≡ turned_away config requests ++ turned_away config (x ∷ [])
turned_away-more config requests x = filter_map-append (λ request. turned_away_from config request) requests (x ∷ [])

pub sifted-stays : {T : Type 0} (config : QueueConfig) (list now rest : List (Req T)) (before out : List (TurnedAway T)) (place : ℕ) (x : Req T)
    → IsSifted config list now before out place → place < length list → now ≡ x ∷ rest → refusal_under config x ≡ None
    → IsSifted config list (rest ++ x ∷ []) before out (place + 1)
sifted-stays config list now rest before out place x so_far within is none =
    let first = take place list in
    let next = next_of list (staying config first) rest place x within (sym so_far.list_is ∙ is) in
    let stays : staying config (first ++ x ∷ []) ≡ staying config first ++ x ∷ [] = staying-more config first x ∙ ap (λ some. staying config first ++ some) (staying-none config x none) in
    let same : turned_away config (first ++ x ∷ []) ≡ turned_away config first = turned_away-more config first x ∙ ap (λ some. turned_away config first ++ some) (turned_away-none config x [] none) ∙ append-nil (turned_away config first) in
    record {
      list_is = rw (next.taken, next.rest_is, stays) (append_assoc (drop (place + 1) list) (staying config first) (x ∷ []));
      out_is = rw (next.taken, same) so_far.out_is;
    }

pub sifted-leaves : {T : Type 0} (config : QueueConfig) (list now rest : List (Req T)) (before out : List (TurnedAway T)) (place : ℕ) (x : Req T) (cause : QueueError)
    → IsSifted config list now before out place → place < length list → now ≡ x ∷ rest → refusal_under config x ≡ Some cause
    → IsSifted config list rest before (out ++ (record { cause = cause; request = x }) ∷ []) (place + 1)
sifted-leaves config list now rest before out place x cause so_far within is some =
    let first = take place list in
    let next = next_of list (staying config first) rest place x within (sym so_far.list_is ∙ is) in
    let stays : staying config (first ++ x ∷ []) ≡ staying config first = staying-more config first x ∙ ap (λ some. staying config first ++ some) (staying-some config x cause some) ∙ append-nil (staying config first) in
    let more : turned_away config (first ++ x ∷ []) ≡ turned_away config first ++ (record { cause = cause; request = x }) ∷ [] = turned_away-more config first x ∙ ap (λ some. turned_away config first ++ some) (turned_away-some config x [] cause some) in
    record {
      list_is = rw (next.taken, next.rest_is, stays) refl;
      out_is = rw (next.taken, more, so_far.out_is) (append_assoc before (turned_away config first) ((record { cause = cause; request = x }) ∷ []));
    }

-- and how many of the others are turned away
pub left-stays : {T : Type 0} (config : QueueConfig) (list now rest : List (Req T)) (before out : List (TurnedAway T)) (place : ℕ) (x : Req T)
    → IsSifted config list now before out place → place < length list → now ≡ x ∷ rest → refusal_under config x ≡ None
    → length (turned_away config (drop (place + 1) list)) ≡ length (turned_away config (drop place list))
left-stays config list now rest before out place x so_far within is none =
    let next = next_of list (staying config (take place list)) rest place x within (sym so_far.list_is ∙ is) in
    rw next.left (ap length (sym (turned_away-none config x (drop (place + 1) list) none)))

pub left-leaves : {T : Type 0} (config : QueueConfig) (list now rest : List (Req T)) (before out : List (TurnedAway T)) (place : ℕ) (x : Req T) (cause : QueueError)
    → IsSifted config list now before out place → place < length list → now ≡ x ∷ rest → refusal_under config x ≡ Some cause
    → length (turned_away config (drop (place + 1) list)) + 1 ≡ length (turned_away config (drop place list))
left-leaves config list now rest before out place x cause so_far within is some =
    let next = next_of list (staying config (take place list)) rest place x within (sym so_far.list_is ∙ is) in
    let all = ap length (turned_away-some config x (drop (place + 1) list) cause some) in
    rw next.left (omega (arith, all))

-- ---- what a queue keeps to

-- what waits on is admitted under the other rates
admitted_under : {T : Type 0} (config other : QueueConfig) (priority : Priority) (request : Req T) → 1 ≤ other.room → IsAdmitted config priority request → may_wait other request ≡ true → IsAdmitted other priority request
admitted_under config other priority request some before may = grind (arith, common_steps, nat_tests)

all_under : {T : Type 0} (config other : QueueConfig) (priority : Priority) (requests : List (Req T)) → 1 ≤ other.room → All (IsAdmitted config priority) requests → All (IsAdmitted other priority) (staying other requests)
all_under config other priority requests some all =
    let before = All-filter (λ request. may_wait other request) (IsAdmitted config priority) requests all in
    let passes = filter_passes (λ request. may_wait other request) requests in
    λ place default less. admitted_under config other priority (slice_index_or (staying other requests) place default) some (before place default less) (passes place default less)

fewer : {T : Type 0} (config : QueueConfig) (requests : List (Req T)) → length (staying config requests) ≤ length requests
fewer config [] = omega arith
fewer config (x ∷ xs) = elim (may_wait config x) as (λ stays. length (if stays then x ∷ staying config xs else staying config xs) ≤ suc (length xs)) [
  | true ↦ omega (arith, fewer config xs)
  | false ↦ omega (arith, fewer config xs)
]

pub IsQueue-under_rates : {T : Type 0} (normal batch : ℕ) (queue : Queue T) → IsQueue queue → IsConfig (with_rates normal batch queue.config) → IsQueue (under_rates normal batch queue)
IsQueue-under_rates normal batch queue h is =
    let other = with_rates normal batch queue.config in
    let waiting = queue.waiting in
    let before : length (waiting.system ++ waiting.default_ ++ waiting.batch) ≤ queue.config.room = h.room in
    let all = simp length-append at before in
    let after : length (staying other waiting.system ++ staying other waiting.default_ ++ staying other waiting.batch) ≡ length (staying other waiting.system) + length (staying other waiting.default_) + length (staying other waiting.batch) = simp length-append in
    record {
      config = is;
      system = all_under queue.config other System waiting.system is.room_some h.system;
      default_ = all_under queue.config other Default waiting.default_ is.room_some h.default_;
      batch = all_under queue.config other Batch waiting.batch is.room_some h.batch;
      room = omega (arith, all, after, fewer other waiting.system, fewer other waiting.default_, fewer other waiting.batch);
      budgets = h.budgets;
    }

-- ---- whom other rates do not hold

pub stays_admitted : {T : Type 0} (config other : QueueConfig) (priority : Priority) (request : Req T) → 1 ≤ other.room
    → (is_count config priority request.count ≡ true → is_count other priority request.count ≡ true) → is_throttled other priority ≡ false
    → IsAdmitted config priority request → refusal_under other request ≡ None
stays_admitted config other priority request some same free is =
    refusal_by_rates other request some ∙ rw (is.own, same is.count, free) refl

pub all_stay : {T : Type 0} (config other : QueueConfig) (priority : Priority) (requests : List (Req T)) → 1 ≤ other.room
    → ((count : ℕ) → is_count config priority count ≡ true → is_count other priority count ≡ true) → is_throttled other priority ≡ false
    → All (IsAdmitted config priority) requests → (staying other requests ≡ requests) × (turned_away other requests ≡ [])
all_stay config other priority [] some same free all = (refl, refl)
all_stay config other priority (x ∷ xs) some same free all =
    let none = stays_admitted config other priority x some (same x.count) free (All-head (IsAdmitted config priority) x xs all) in
    let rest = all_stay config other priority xs some same free (All-tail (IsAdmitted config priority) x xs all) in
    (rw (none, rest.0) refl, turned_away-none other x xs none ∙ rest.1)

turned_away-append : {T : Type 0} (config : QueueConfig) (xs ys : List (Req T)) → turned_away config (xs ++ ys) ≡ turned_away config xs ++ turned_away config ys
turned_away-append config xs ys = filter_map-append (λ request. turned_away_from config request) xs ys

pub only_batch : {T : Type 0} (normal batch : ℕ) (queue : Queue T) → IsQueue queue → IsConfig (with_rates normal batch queue.config)
    → turned_away (with_rates normal batch queue.config) (row queue.waiting) ≡ turned_away (with_rates normal batch queue.config) queue.waiting.batch
only_batch normal batch queue h is =
    let other = with_rates normal batch queue.config in
    let waiting = queue.waiting in
    let system = all_stay queue.config other System waiting.system is.room_some (λ _ same. same) refl h.system in
    let default_ = all_stay queue.config other Default waiting.default_ is.room_some (λ _ same. same) refl h.default_ in
    rw (turned_away-append other (waiting.system ++ waiting.default_) waiting.batch, turned_away-append other waiting.system waiting.default_, system.1, default_.1) refl

pub under_rates_by : {T : Type 0} (normal batch : ℕ) (queue : Queue T) → IsQueue queue → IsConfig (with_rates normal batch queue.config)
    → under_rates normal batch queue ≡ record queue { config = with_rates normal batch queue.config; waiting = record queue.waiting { batch = staying (with_rates normal batch queue.config) queue.waiting.batch } }
under_rates_by normal batch queue h is =
    let other = with_rates normal batch queue.config in
    let waiting = queue.waiting in
    let system = all_stay queue.config other System waiting.system is.room_some (λ _ same. same) refl h.system in
    let default_ = all_stay queue.config other Default waiting.default_ is.room_some (λ _ same. same) refl h.default_ in
    rw (system.0, default_.0) refl

-- of a queue whose batch requests alone were looked at
pub IsQueue-set : {T : Type 0} (normal batch : ℕ) (queue : Queue T) → IsQueue queue → IsConfig (with_rates normal batch queue.config)
    → IsQueue (record queue { config = with_rates normal batch queue.config; waiting = record queue.waiting { batch = staying (with_rates normal batch queue.config) queue.waiting.batch } })
IsQueue-set normal batch queue h is = rw (under_rates_by normal batch queue h is) at (IsQueue-under_rates normal batch queue h is)

-- ---- the laws

parted_by : {T : Type 0} (config : QueueConfig) (x : Req T) (xs : List (Req T)) (why : Option QueueError) → refusal_under config x ≡ why
    → IsPermutation xs (map (λ gone. gone.request) (turned_away config xs) ++ staying config xs)
    → IsPermutation (x ∷ xs) (map (λ gone. gone.request) (turned_away config (x ∷ xs)) ++ staying config (x ∷ xs))
parted_by config x xs None is rest =
    let out = map (λ gone. gone.request) (turned_away config xs) in
    let stay = staying config xs in
    let more = IsPermutation-cons x xs (out ++ stay) rest in
    let back = IsPermutation-sym (out ++ x ∷ stay) (x ∷ out ++ stay) (IsPermutation-middle out x stay) in
    rw is (IsPermutation-trans (x ∷ xs) (x ∷ out ++ stay) (out ++ x ∷ stay) more back)
parted_by config x xs (Some cause) is rest =
    let out = map (λ gone. gone.request) (turned_away config xs) in
    let stay = staying config xs in
    rw is (IsPermutation-cons x xs (out ++ stay) rest)

parted : {T : Type 0} (config : QueueConfig) (requests : List (Req T)) → IsPermutation requests (map (λ gone. gone.request) (turned_away config requests) ++ staying config requests)
parted config [] = IsPermutation-refl []
parted config (x ∷ xs) = parted_by config x xs (refusal_under config x) refl (parted config xs)

row-staying : {T : Type 0} (config : QueueConfig) (xs ys zs : List (Req T)) → staying config xs ++ staying config ys ++ staying config zs ≡ staying config (xs ++ ys ++ zs)
row-staying config xs ys zs =
    sym (filter-append (λ request. may_wait config request) (xs ++ ys) zs ∙ ap (λ some. some ++ staying config zs) (filter-append (λ request. may_wait config request) xs ys))

pub nobody_lost : {T : Type 0} (queue : Queue T) (normal batch : ℕ)
    → IsPermutation (row queue.waiting) (map (λ gone. gone.request) (turned_away (with_rates normal batch queue.config) (row queue.waiting)) ++ row (under_rates normal batch queue).waiting)
nobody_lost queue normal batch =
    let other = with_rates normal batch queue.config in
    rw (row-staying other queue.waiting.system queue.waiting.default_ queue.waiting.batch) (parted other (row queue.waiting))

away_own : {T : Type 0} (config other : QueueConfig) (priority : Priority) (requests : List (Req T)) → All (IsAdmitted config priority) requests → All (λ gone. gone.request.priority ≡ priority) (turned_away other requests)
away_own config other priority [] all = All-nil (λ gone. gone.request.priority ≡ priority)
away_own config other priority (x ∷ xs) all =
    let head = All-head (IsAdmitted config priority) x xs all in
    let rest = away_own config other priority xs (All-tail (IsAdmitted config priority) x xs all) in
    elim (refusal_under other x) as (λ why. All (λ gone. gone.request.priority ≡ priority) (cons_option (option_map (λ cause. (record { cause = cause; request = x })) why) (turned_away other xs))) [
      | None ↦ rest
      | Some cause ↦ All-cons (λ gone. gone.request.priority ≡ priority) (record { cause = cause; request = x }) (turned_away other xs) head.own rest
    ]

pub batch_alone : {T : Type 0} (queue : Queue T) (normal batch : ℕ) → IsQueue queue → IsConfig (with_rates normal batch queue.config)
    → All (λ gone. gone.request.priority ≡ Batch) (turned_away (with_rates normal batch queue.config) (row queue.waiting))
batch_alone queue normal batch h is =
    rw (only_batch normal batch queue h is) (away_own queue.config (with_rates normal batch queue.config) Batch queue.waiting.batch h.batch)

no_less : (config : QueueConfig) (normal batch count : ℕ) → config.normal ≤ normal → is_count config Batch count ≡ true → is_count (with_rates normal batch config) Batch count ≡ true
no_less config normal batch count least is = grind (arith, nat_tests)

some_batch : (batch : ℕ) → 1 ≤ batch → (batch == 0) ≡ false
some_batch batch some = grind (arith, nat_tests)

pub none_for_higher : {T : Type 0} (queue : Queue T) (normal batch : ℕ) → IsQueue queue → IsConfig (with_rates normal batch queue.config)
    → queue.config.normal ≤ normal → 1 ≤ batch → turned_away (with_rates normal batch queue.config) (row queue.waiting) ≡ []
none_for_higher queue normal batch h is least some =
    let other = with_rates normal batch queue.config in
    only_batch normal batch queue h is
    ∙ (all_stay queue.config other Batch queue.waiting.batch is.room_some (λ count same. no_less queue.config normal batch count least same) (some_batch batch some) h.batch).1

-- so no more are turned away than there are batch requests
pub few_away : {T : Type 0} (queue : Queue T) (normal batch : ℕ) → IsQueue queue → IsConfig (with_rates normal batch queue.config)
    → length (turned_away (with_rates normal batch queue.config) (row queue.waiting)) ≤ length queue.waiting.batch
few_away queue normal batch h is =
    rw (only_batch normal batch queue h is)
    (turned_away-le (with_rates normal batch queue.config) queue.waiting.batch)
