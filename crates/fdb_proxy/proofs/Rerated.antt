-- What an offer is refused for, and that whom new rates turn away is refused for that too.
use Rattle.std.proofs.Common.{◌≡◌, Bool, true, false, ◌&&◌, ◌==◌, if◌then◌else◌, not, List, [], ◌∷◌, Option, None, Some, length, refl, subst, sym}
use Rattle.std.specs.Prelude.{All}
use Rattle.std.proofs.lemmas.List.Elements.{All-cons, All-nil}
use Rattle.fdb_proxy.specs.Cause.{is_of_an_offer}
use Rattle.fdb_queue.specs.Admission.{IsCause, below, is_count, is_full, is_throttled}
use Rattle.fdb_queue.specs.NewRates.{refusal_under, turned_away}
use Rattle.fdb_queue.specs.Queue.{new_queue}
use Rattle.fdb_queue.specs.Waiting.{nothing}
use Rattle.fdb_queue.specs.declared.config.QueueConfig.{QueueConfig}
use Rattle.fdb_queue.specs.declared.error.QueueError.{QueueError}
use Rattle.fdb_queue.specs.declared.error.QueueError.TheVariants.{BadCount, BatchThrottled, Full}
use Rattle.fdb_queue.specs.declared.waiting.Req.{Req}

-- what an offer is refused for
pub of_an_offer : (valid throttled full : Bool) (cause : QueueError) → IsCause (if not valid then Some BadCount else if throttled then Some BatchThrottled else if full then Some Full else None) cause → is_of_an_offer cause ≡ true
of_an_offer false throttled full cause due = rw due refl
of_an_offer true true full cause due = rw due refl
of_an_offer true false true cause due = rw due refl
of_an_offer true false false cause due = rw due refl

due_by : {T : Type 0} (config : QueueConfig) (x : Req T) (xs : List (Req T)) (why : Option QueueError) → refusal_under config x ≡ why
    → All (λ gone. is_of_an_offer gone.cause ≡ true) (turned_away config xs) → All (λ gone. is_of_an_offer gone.cause ≡ true) (turned_away config (x ∷ xs))
due_by config x xs None is rest = rw is rest
due_by {T = T} config x xs (Some cause) is rest =
    let full = is_full (new_queue {T = T} config) && (length (below x.priority (nothing {T = T})) == 0) in
    rw is (All-cons (λ gone. is_of_an_offer gone.cause ≡ true) (record { cause = cause; request = x }) (turned_away config xs)
    (of_an_offer (is_count config x.priority x.count) (is_throttled config x.priority) full cause (subst (λ due. IsCause due cause) (sym is) refl)) rest)

pub all_due : {T : Type 0} (config : QueueConfig) (requests : List (Req T)) → All (λ gone. is_of_an_offer gone.cause ≡ true) (turned_away config requests)
all_due config [] = All-nil (λ gone. is_of_an_offer gone.cause ≡ true)
all_due config (x ∷ xs) = due_by config x xs (refusal_under config x) refl (all_due config xs)
