-- What a proxy sends. (this product's own)
use Rattle.std.specs.Prelude.{◌≡◌, ℕ, Bool, true, false, List, Option, None, Some}
use Rattle.std.specs.List.{AllZip, FoldsTo}
use Rattle.fdb_history.specs.declared.service.Service.{Ghosts as ServiceGhosts}
use Rattle.fdb_live.specs.declared.seen.Live.{Ghosts as LiveGhosts}
use Rattle.fdb_live.specs.declared.view.Change.{Change}
use Rattle.fdb_proxy.specs.Batch.{Replies}
use Rattle.fdb_proxy.specs.declared.request.Addressed.{Addressed}
use Rattle.fdb_proxy.specs.declared.request.Answer.{Answer}
use Rattle.fdb_proxy.specs.declared.request.Answer.TheVariants as answer
use Rattle.fdb_proxy.specs.declared.request.Refused.{Refused}
use Rattle.fdb_proxy.specs.declared.error.Cause.{Cause}
use Rattle.fdb_proxy.specs.declared.error.Cause.TheVariants.{Closed}
use Rattle.fdb_proxy.specs.declared.error.Cause.TheVariants as cause
use Rattle.fdb_proxy.specs.declared.request.Request.{Request}
use Rattle.fdb_proxy.specs.declared.request.Rates.{Rates}
use Rattle.fdb_proxy.specs.private.Turn.{IsTurn, emptied}
use Rattle.fdb_queue.specs.NewRates.{turned_away, under_rates, with_rates}
use Rattle.fdb_queue.specs.Queue.{Queue}
use Rattle.fdb_queue.specs.Waiting.{row}
use Rattle.fdb_queue.specs.declared.waiting.Req.{Req}
use Rattle.fdb_queue.specs.declared.waiting.TurnedAway.{TurnedAway}

module _ {S : Type 0} {live : LiveGhosts S} {service : ServiceGhosts S} where
  -- A refusal answers a request, with this cause: it has the request's client, serial number and
  -- asked position, and its token.
  pub record IsRefusalOf (why : Cause) (request : Request S live service)
      (refused : Refused S live service) : Type 0 where
    pub client : refused.client ≡ request.client
    pub serial : refused.serial ≡ request.serial
    pub asked : refused.asked ≡ request.asked
    pub seen : refused.seen ≡ request.seen
    pub cause : refused.cause ≡ why

  module _ {O : Type 0} (sends : O → Answer S live service → O → Type 0) where
    -- A request was sent its refusal, and nothing else was.
    abbrev pub IsRefused : Cause → Request S live service → O → O → Type 0
    IsRefused cause request before after =
        (refused : Refused S live service) × IsRefusalOf cause request refused
        × sends before (answer.Refused refused) after

    -- Each of some requests was sent its refusal, once and in order, and nothing else was: the desk
    -- was closed.
    abbrev pub AreClosed : O → List (Req (Request S live service)) → O → Type 0
    AreClosed before requests after =
        FoldsTo (λ one request next. IsRefused Closed request.payload one next)
        before requests after

    -- Each of those that a turn turned away was sent its refusal, once and in order, with the cause
    -- that the offer found, and nothing else was.
    abbrev pub AreTurnedAway : O → List (TurnedAway (Request S live service)) → O → Type 0
    AreTurnedAway before turned_away after =
        FoldsTo (λ one gone next. IsRefused (cause.Queue gone.cause) gone.request.payload one next)
        before turned_away after

    -- Each of some replies was sent, once and in order, and nothing else was.
    abbrev pub AreReplied : O → List (Addressed S live service) → O → Type 0
    AreReplied before replies after =
        FoldsTo (λ one addressed next. sends one (answer.Reply addressed.reply) next)
        before replies after

    -- Where there are new rates, they lead from one queue to another: whoever may not wait under them
    -- was sent the refusal, once and in the order of the row, and nothing else was. Where there are
    -- none, nothing is done.
    abbrev pub IsRerated : Option Rates → Queue (Request S live service)
        → Queue (Request S live service) → O → O → Type 0
    IsRerated None before after one next = (after ≡ before) × (next ≡ one)
    IsRerated (Some rates) before after one next =
        (after ≡ under_rates rates.normal rates.batch before)
        × AreTurnedAway one
        (turned_away (with_rates rates.normal rates.batch before.config) (row before.waiting)) next

    -- One turn with some requests leads from one queue to another, and all that it decides is sent,
    -- and nothing else: whoever it turned away gets a refusal, and then whoever it started a reply,
    -- from one read that saw these changes.
    pub record IsServed (elapsed : ℕ) (before : Queue (Request S live service))
        (offered : List (Req (Request S live service))) (changes : List Change)
        (after : Queue (Request S live service)) (one next : O) : Type 0 where
      pub started : List (Req (Request S live service))
      pub turned_away : List (TurnedAway (Request S live service))
      pub addressed : List (Addressed S live service)
      pub between : O
      pub turn : IsTurn elapsed before offered started turned_away after
      pub refused : AreTurnedAway one turned_away between
      pub replies : AllZip (Replies after.throttles changes) started addressed
      pub sent : AreReplied between addressed next

    -- The same; after the last turn all that are left leave the queue, and are told that the desk
    -- was closed, and nothing else is done there.
    abbrev pub IsServedOrLast : Bool → ℕ → Queue (Request S live service)
        → List (Req (Request S live service)) → List Change
        → Queue (Request S live service) → O → O → Type 0
    IsServedOrLast false elapsed before offered changes after one next =
        IsServed elapsed before offered changes after one next
    IsServedOrLast true elapsed before offered changes after one next =
        (turned : Queue (Request S live service)) × (between : O)
        × IsServed elapsed before offered changes turned one between
        × AreClosed between (row turned.waiting) next
        × (after ≡ emptied turned)

    -- What was taken from a desk is served: new rates hold first, and then there is a turn.
    abbrev pub IsTakenServed : Option Rates → Bool → ℕ → Queue (Request S live service)
        → List (Req (Request S live service)) → List Change
        → Queue (Request S live service) → O → O → Type 0
    IsTakenServed rates closed elapsed before offered changes after one next =
        (rerated : Queue (Request S live service)) × (between : O)
        × IsRerated rates before rerated one between
        × IsServedOrLast closed elapsed rerated offered changes after between next
