use Rattle.std.proofs.Common.{◌≡◌, true, ◌&&◌, ◌==◌, List, [], ◌∷◌, ◌++◌, Option, None, Some, length, refl, inl, inr}
use Rattle.std.proofs.lemmas.List.Elements.{All-push}
use Rattle.fdb_proxy.proofs.Rerated.{of_an_offer}
use Rattle.fdb_proxy.specs.Cause.{is_of_an_offer}
use Rattle.fdb_proxy.specs.private.Turn.{IsOutcome, Offering}
use Rattle.fdb_queue.specs.Admission.{IsCause, admitted, below, is_count, is_full, is_throttled, pushed_out, refusal_of}
use Rattle.fdb_queue.specs.Queue.{Queue}
use Rattle.fdb_queue.specs.declared.error.QueueError.{QueueError}
use Rattle.fdb_queue.specs.declared.error.QueueError.TheVariants.{Full}
use Rattle.fdb_queue.specs.declared.waiting.Req.{Req}
use Rattle.fdb_queue.specs.declared.waiting.TurnedAway.{TurnedAway}
use Rattle.fdb_proxy.proofs.turn.TimedQueue.offer.Goals.{in-Ok-Some, in-Err}
use Rattle.fdb_proxy.proofs.turn.TimedQueue.offer.Goals as goal

-- a request was let in, and another one was pushed out
is_admitted : {T : Type 0} (due : Option QueueError) (before : Offering T) (request out : Req T) (after : Queue T) (gone : TurnedAway T) (more : List (TurnedAway T)) → due ≡ None
    → after ≡ admitted before.queue request → Some out ≡ pushed_out before.queue request → gone ≡ record { cause = Full; request = out } → more ≡ before.turned_away ++ gone ∷ []
    → IsOutcome due before request (record { queue = after; turned_away = more })
is_admitted None before request out after gone more none is other by grown = inl (rw (is, grown, by, ← other) refl)
is_admitted (Some due) before request out after gone more none is other by grown = absurd (cc none)

-- a request was refused
is_refused : {T : Type 0} (due : Option QueueError) (before : Offering T) (request own : Req T) (cause : QueueError) (after : Queue T) (gone : TurnedAway T) (more : List (TurnedAway T)) → IsCause due cause
    → own ≡ request → after ≡ before.queue → gone ≡ record { cause = cause; request = own } → more ≡ before.turned_away ++ gone ∷ []
    → IsOutcome due before request (record { queue = after; turned_away = more })
is_refused None before request own cause after gone more due same is by grown = inr (rw (is, grown, by, same, due) refl)
is_refused (Some why) before request own cause after gone more due same is by grown = rw (is, grown, by, same, due) refl

pub returns-clause-offers : goal.returns-clause-offers
returns-clause-offers g c =
    let queue = c.args.self.now.queue in
    let request = c.args.request in
    let gone = c.match-offer.gone in
    let more = c.push_reserved.new.self.items in
    elim c.match-offer.branch [
      | in-Ok-Some w ↦
          let out : Some w.in-Ok-Some.request ≡ pushed_out queue request = cc (w.in-Ok-Some.field-0-is, w.in-Ok-Some.ensures.pushed_out) in
          is_admitted (refusal_of queue request) (record { queue = queue; turned_away = c.args.turned_away.now.items }) request w.in-Ok-Some.request c.offer.new.self gone more
          w.in-Ok-Some.ensures.let_in w.in-Ok-Some.ensures.admitted out w.gone-is c.push_reserved.ensures.items
      | in-Err w ↦
          is_refused (refusal_of queue request) (record { queue = queue; turned_away = c.args.turned_away.now.items }) request w.in-Err.request w.in-Err.cause c.offer.new.self gone more
          w.in-Err.ensures.cause w.in-Err.ensures.handed_back w.in-Err.ensures.unchanged w.gone-is c.push_reserved.ensures.items
    ]

pub returns-clause-due : goal.returns-clause-due
returns-clause-due g c before =
    let queue = c.args.self.now.queue in
    let request = c.args.request in
    let here : is_of_an_offer c.match-offer.gone.cause ≡ true = elim c.match-offer.branch [
      | in-Ok-Some w ↦ rw w.gone-is refl
      | in-Err w ↦ rw w.gone-is (of_an_offer (is_count queue.config request.priority request.count) (is_throttled queue.config request.priority)
          (is_full queue && (length (below request.priority queue.waiting) == 0)) w.in-Err.cause w.in-Err.ensures.cause)
    ] in
    rw c.push_reserved.ensures.items (All-push (λ gone. is_of_an_offer gone.cause ≡ true) c.args.turned_away.now.items c.match-offer.gone before here)
