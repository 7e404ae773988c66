-- A turn of a proxy, by the definitions of its queue.
use Rattle.std.specs.Prelude.{◌≡◌, ◌⊎◌, ℕ, List, [], ◌∷◌, ◌++◌, Option, None, Some, IfSome, ◌<◌, length, map, option_to_list}
use Rattle.std.specs.List.{FoldsTo}
use Rattle.fdb_queue.specs.declared.error.QueueError.{QueueError}
use Rattle.fdb_queue.specs.declared.error.QueueError.TheVariants.{Full, Memory}
use Rattle.fdb_queue.specs.declared.waiting.Req.{Req}
use Rattle.fdb_queue.specs.declared.waiting.TurnedAway.{TurnedAway}
use Rattle.fdb_queue.specs.Admission.{refusal_of, admitted, pushed_out}
use Rattle.fdb_queue.specs.Queue.{Queue}
use Rattle.fdb_queue.specs.Waiting.{first, nothing, row}
use Rattle.fdb_queue.specs.Waits.{after_windows}
use Rattle.fdb_queue.specs.Window.{window, after_window}

-- A queue while requests are offered to it, and those that it turned away so far, in order.
pub record Offering (T : Type 0) : Type 0 where
  pub queue : Queue T
  pub turned_away : List (TurnedAway T)

-- a request was refused, and the queue is as it was
abbrev pub refusing : {T : Type 0} → Offering T → QueueError → Req T → Offering T
refusing before cause request =
    record before {
      turned_away = before.turned_away ++ record { cause = cause; request = request } ∷ [];
    }

-- a request was let in, and whoever it pushed out was turned away as `Full`
abbrev pub admitting : {T : Type 0} → Offering T → Req T → Offering T
admitting before request = record {
  queue = admitted before.queue request;
  turned_away = before.turned_away
      ++ map (λ out. record { cause = Full; request = out })
      (option_to_list (pushed_out before.queue request));
}

-- What an offer may come to: the request is refused for what the queue has against it. Where it has
-- nothing, the request is let in, or memory was refused.
abbrev pub IsOutcome : {T : Type 0} → Option QueueError → Offering T → Req T → Offering T → Type 0
IsOutcome (Some due) before request after = after ≡ refusing before due request
IsOutcome None before request after =
    (after ≡ admitting before request)
    ⊎ (after ≡ refusing before Memory request)

abbrev pub Offers : {T : Type 0} → Offering T → Req T → Offering T → Type 0
Offers before request after = IsOutcome (refusal_of before.queue request) before request after

-- Each of some requests is offered to a queue, in order: whom that turns away, and the queue then.
abbrev pub AreOffered : {T : Type 0} → Queue T → List (Req T) → List (TurnedAway T) → Queue T
    → Type 0
AreOffered before offered turned_away filled =
    FoldsTo Offers (record { queue = before; turned_away = [] }) offered
    (record { queue = filled; turned_away = turned_away })

-- What a turn comes to before its window: each of some requests is offered to the queue, in order.
-- Where there is none, windows that start nothing pass at once. (this product's own)
pub record IsReady {T : Type 0} (elapsed : ℕ) (before : Queue T)
    (offered : List (Req T)) (turned_away : List (TurnedAway T)) (ready : Queue T) : Type 0 where
  pub filled : Queue T
  pub idle : ℕ
  pub offers : AreOffered before offered turned_away filled
  pub none : (earlier : ℕ) → earlier < idle → window (after_windows elapsed earlier filled) ≡ []
  pub prompt : 0 < length offered → idle ≡ 0
  pub passed : ready ≡ after_windows elapsed idle filled

-- A turn came to a queue whose window starts something.
pub record HasReady {T : Type 0}
    (elapsed : ℕ) (before : Queue T) (offered : List (Req T)) (after : Queue T) : Type 0 where
  pub turned_away : List (TurnedAway T)
  pub ready : IsReady elapsed before offered turned_away after
  pub starts : 0 < length (window after)

-- Where nobody was offered and somebody waits, so many requests are some.
abbrev pub StartsSome : {T : Type 0} → Queue T → List (Req T) → ℕ → Type 0
StartsSome before offered started =
    offered ≡ [] → IfSome (first (row before.waiting)) (λ _. 0 < started)

-- A turn of a proxy: each of some requests is offered to its queue, in order, and
-- then one window is held; where nobody is offered, the windows before that start
-- nothing pass at once. It gives what the window starts, and whom the offers turned
-- away. (`transactionStarter` and `queueGetReadVersionRequests` of GrvProxyServer;
-- that one turn follows the other with this time between them is this product's own)
pub record IsTurn {T : Type 0} (elapsed : ℕ) (before : Queue T) (offered started : List (Req T))
    (turned_away : List (TurnedAway T)) (after : Queue T) : Type 0 where
  pub ready : Queue T
  pub comes_to : IsReady elapsed before offered turned_away ready
  pub starts : started ≡ window ready
  pub leaves : after ≡ after_window elapsed ready

-- a queue that all who waited have left, with its budgets and throttles as they were
abbrev pub emptied : {T : Type 0} → Queue T → Queue T
emptied queue = record queue { waiting = nothing }
