-- Which lists fit into one window, one request at a time.
use Rattle.std.proofs.Common.{◌≡◌, ℕ, ◌+◌, ◌&&◌, Bool, true, false, List, [], ◌∷◌, ◌++◌, None, map, length, refl, sym, ap, ◌∙◌, arith, length-append, add-zero, inl, inr}
use Rattle.std.specs.Prelude.{nat_le, nat_lt}
use Rattle.std.specs.List.{list_all, last_or}
use Rattle.std.specs.Option.{option_map_or}
use Rattle.std.proofs.lemmas.Bool.{and_parts, and_cases}
use Rattle.std.proofs.lemmas.Bool.Decides.{nat_tests}
use Rattle.std.proofs.lemmas.List.Folds.{list_all-map, list_all-append}
use Rattle.std.proofs.lemmas.List.Sums.{sum_by-cons}
use Rattle.fdb_queue.specs.declared.window.Budgets.{Budgets}
use Rattle.fdb_queue.specs.declared.config.QueueConfig.{QueueConfig}
use Rattle.fdb_queue.specs.declared.config.TheConstants.{MAX_STARTED}
use Rattle.fdb_queue.specs.declared.waiting.Req.{Req}
use Rattle.fdb_queue.specs.Queue.{Queue}
use Rattle.fdb_queue.specs.Waiting.{total}
use Rattle.fdb_queue.specs.Window.{may_start, last_may_start, prefixes, fits}

-- whether each of some requests may start, where transactions of so many counts have started before them
abbrev pub each_after : {T : Type 0} → QueueConfig → Budgets → ℕ → List (Req T) → Bool
each_after config budgets before [] = true
each_after config budgets before (request ∷ requests) =
    may_start config budgets request.priority (before + request.count) && each_after config budgets (before + request.count) requests

-- the sum of a list that begins with a request
pub total-cons : {T : Type 0} (x : Req T) (xs : List (Req T)) → total (x ∷ xs) ≡ x.count + total xs
total-cons x xs = sum_by-cons (λ request. request.count) x xs

and_assoc : (a b c : Bool) → (a && (b && c)) ≡ (a && b && c)
and_assoc true b c = refl
and_assoc false b c = refl

pub each_after-append : {T : Type 0} (config : QueueConfig) (budgets : Budgets) (before : ℕ) (xs ys : List (Req T))
    → each_after config budgets before (xs ++ ys) ≡ (each_after config budgets before xs && each_after config budgets (before + total xs) ys)
each_after-append config budgets before [] ys = rw (add-zero before) refl
each_after-append config budgets before (x ∷ xs) ys =
    let sums : before + total (x ∷ xs) ≡ before + x.count + total xs = omega (arith, total-cons x xs) in
    rw (each_after-append config budgets (before + x.count) xs ys, sums) (and_assoc (may_start config budgets x.priority (before + x.count)) (each_after config budgets (before + x.count) xs) (each_after config budgets (before + x.count + total xs) ys))

pub and-true : (b : Bool) → (b && true) ≡ b
and-true true = refl
and-true false = refl

swap : (a b : Bool) → (a && (b && true)) ≡ (b && (a && true))
swap true b = refl
swap false true = refl
swap false false = refl

list_all-same : {X : Type 0} (p q : X → Bool) → ((x : X) → p x ≡ q x) → (xs : List X) → list_all p xs ≡ list_all q xs
list_all-same p q same [] = refl
list_all-same p q same (x ∷ xs) = rw (same x, list_all-same p q same xs) refl

-- It is the test of the definition: here each prefix comes after transactions of so many counts.
abbrev last_after : {T : Type 0} → QueueConfig → Budgets → ℕ → List (Req T) → Bool
last_after config budgets before requests = option_map_or (λ last. may_start config budgets last.priority (before + total requests)) (last_or None requests) true

abbrev pub each_may_start : {T : Type 0} → QueueConfig → Budgets → List (Req T) → Bool
each_may_start config budgets requests = list_all (λ some. last_may_start config budgets some) (prefixes requests)

-- a request that comes before each prefix
each_with : {T : Type 0} (config : QueueConfig) (budgets : Budgets) (before : ℕ) (x : Req T) (xs : List (Req T))
    → list_all (λ some. last_after config budgets before (x ∷ some)) (prefixes xs)
    ≡ (may_start config budgets x.priority (before + x.count) && list_all (λ some. last_after config budgets (before + x.count) some) (prefixes xs))
each_with config budgets before x [] =
    let sum : before + total (x ∷ []) ≡ before + x.count = omega (arith, total-cons x []) in
    rw sum refl
each_with {T = T} config budgets before x (y ∷ ys) =
    let longer : List (Req T) → List (Req T) = λ some. y ∷ some in
    let with_x : List (Req T) → Bool = λ some. last_after config budgets before (x ∷ some) in
    let after_x : List (Req T) → Bool = λ some. last_after config budgets (before + x.count) some in
    let sum : before + total (x ∷ []) ≡ before + x.count = omega (arith, total-cons x []) in
    let same = list_all-map with_x longer (prefixes ys)
    ∙ list_all-same (λ some. with_x (y ∷ some)) (λ some. after_x (y ∷ some)) (λ some. ap (λ sum. option_map_or (λ last. may_start config budgets last.priority sum) (last_or None (y ∷ some)) true) (omega (arith, total-cons x (y ∷ some)))) (prefixes ys)
    ∙ sym (list_all-map after_x longer (prefixes ys)) in
    list_all-append with_x (map longer (prefixes ys)) ([] ∷ [])
    ∙ rw (sum, same) (swap (list_all after_x (map longer (prefixes ys))) (may_start config budgets x.priority (before + x.count)))
    ∙ ap (λ rest. may_start config budgets x.priority (before + x.count) && rest) (sym (list_all-append after_x (map longer (prefixes ys)) ([] ∷ [])))

each_from : {T : Type 0} (config : QueueConfig) (budgets : Budgets) (before : ℕ) (requests : List (Req T))
    → list_all (λ some. last_after config budgets before some) (prefixes requests) ≡ each_after config budgets before requests
each_from config budgets before [] = refl
each_from {T = T} config budgets before (x ∷ xs) =
    let longer : List (Req T) → List (Req T) = λ some. x ∷ some in
    let test : List (Req T) → Bool = λ some. last_after config budgets before some in
    list_all-append test (map longer (prefixes xs)) ([] ∷ [])
    ∙ and-true (list_all test (map longer (prefixes xs)))
    ∙ list_all-map test longer (prefixes xs)
    ∙ each_with config budgets before x xs
    ∙ ap (λ rest. may_start config budgets x.priority (before + x.count) && rest) (each_from config budgets (before + x.count) xs)

pub each_may_start-after : {T : Type 0} (config : QueueConfig) (budgets : Budgets) (requests : List (Req T)) → each_may_start config budgets requests ≡ each_after config budgets 0 requests
each_may_start-after config budgets requests =
    list_all-same (λ some. last_may_start config budgets some) (λ some. last_after config budgets 0 some)
    (λ some. ap (λ sum. option_map_or (λ last. may_start config budgets last.priority sum) (last_or None some) true) (omega arith)) (prefixes requests)
    ∙ each_from config budgets 0 requests

and-false : (b : Bool) → (b && false) ≡ false
and-false true = refl
and-false false = refl

-- whether some requests fit, with what comes after some of them
pub fits-append : {T : Type 0} (queue : Queue T) (done more : List (Req T)) (request : Req T)
    → fits queue (done ++ request ∷ more)
    ≡ (nat_le (length (done ++ request ∷ more)) MAX_STARTED && (each_after queue.config queue.budgets 0 done
    && (may_start queue.config queue.budgets request.priority (total done + request.count) && each_after queue.config queue.budgets (total done + request.count) more)))
fits-append queue done more request =
    let split = each_may_start-after queue.config queue.budgets (done ++ request ∷ more) ∙ each_after-append queue.config queue.budgets 0 done (request ∷ more) in
    let none : 0 + total done ≡ total done = omega arith in
    let whole : fits queue (done ++ request ∷ more) ≡ (nat_le (length (done ++ request ∷ more)) MAX_STARTED && (each_after queue.config queue.budgets 0 done && each_after queue.config queue.budgets (0 + total done) (request ∷ more))) =
    ap {A = Bool} {B = Bool} (λ v. nat_le (length (done ++ request ∷ more)) MAX_STARTED && v) split in
    rw none at whole

-- one more request, and whatever comes after it
pub fits-more : {T : Type 0} (queue : Queue T) (done more : List (Req T)) (request : Req T)
    → (nat_lt (length done) MAX_STARTED && may_start queue.config queue.budgets request.priority (total done + request.count)) ≡ false
    → fits queue (done ++ request ∷ more) ≡ false
fits-more queue done more request blocked =
    fits-append queue done more request
    ∙ elim (and_cases (nat_lt (length done) MAX_STARTED) (may_start queue.config queue.budgets request.priority (total done + request.count)) blocked) [
      | inl full ↦ (let over : nat_le (length (done ++ request ∷ more)) MAX_STARTED ≡ false = grind (arith, nat_tests, length-append done (request ∷ more)) in rw over refl)
      | inr held ↦ rw (held, and-false, and-false) refl
    ]

pub fits-push : {T : Type 0} (queue : Queue T) (done : List (Req T)) (request : Req T) → fits queue done ≡ true
    → (nat_lt (length done) MAX_STARTED && may_start queue.config queue.budgets request.priority (total done + request.count)) ≡ true
    → fits queue (done ++ request ∷ []) ≡ true
fits-push queue done request h goes =
    let parts = and_parts (nat_lt (length done) MAX_STARTED) (may_start queue.config queue.budgets request.priority (total done + request.count)) goes in
    let each = sym (each_may_start-after queue.config queue.budgets done) ∙ (and_parts (nat_le (length done) MAX_STARTED) (each_may_start queue.config queue.budgets done) h).1 in
    let room : nat_le (length (done ++ request ∷ [])) MAX_STARTED ≡ true = grind (arith, nat_tests, length-append done (request ∷ []), parts.0) in
    fits-append queue done [] request ∙ rw (room, each, parts.1) refl
