-- What the answers to a batch have to do with its requests.
use Rattle.std.specs.Prelude.{◌≡◌, List, length}
use mathlib.Core.List.{IsPrefix}
use Rattle.fdb_history.specs.declared.log.TagLimit.{TagLimit}
use Rattle.fdb_history.specs.declared.service.Service.{Ghosts as ServiceGhosts}
use Rattle.fdb_live.specs.declared.seen.Live.{Ghosts as LiveGhosts}
use Rattle.fdb_live.specs.declared.view.Change.{Change}
use Rattle.fdb_live.specs.Seen.{last_record}
use Rattle.fdb_proxy.specs.declared.request.Addressed.{Addressed}
use Rattle.fdb_proxy.specs.declared.request.Reply.{Reply}
use Rattle.fdb_proxy.specs.declared.request.Request.{Request}
use Rattle.fdb_queue.specs.declared.waiting.Req.{Req}
use Rattle.fdb_queue.specs.Throttles.{limits_of}
use Rattle.fdb_queue.specs.declared.throttles.Throttle.{Throttle}

module _ {S : Type 0} {live : LiveGhosts S} {service : ServiceGhosts S} where
  -- what throttles the tags of a request, at its own priority and moment
  abbrev pub own_limits : List Throttle → Req (Request S live service) → List TagLimit
  own_limits throttles request =
      limits_of throttles request.payload.opts.priority request.payload.opts.at
      request.payload.opts.tags

  -- A reply answers a request, where these throttles stand, and where a read saw these changes. It
  -- has the request's client, serial number and asked position, and the limits of its tags. Its
  -- record is the last of the changes and its position their number; it proves them to the asker,
  -- who had seen the first of them. (`sendGrvReplies` of GrvProxyServer; what it proves is this
  -- product's own)
  pub record IsReplyTo (throttles : List Throttle) (changes : List Change)
      (request : Req (Request S live service)) (reply : Reply S live service) : Type 0 where
    pub client : reply.client ≡ request.payload.client
    pub serial : reply.serial ≡ request.payload.serial
    pub asked : reply.asked ≡ request.payload.asked
    pub limits : reply.limits ≡ own_limits throttles request
    pub rec : reply.rec ≡ last_record service.start changes
    pub position : reply.position ≡ length changes
    pub seen : reply.seen.changes ≡ changes
    pub extends : IsPrefix request.payload.seen.changes changes

  -- What is sent on the channel of a request is a reply to it.
  abbrev pub Replies : List Throttle → List Change
      → Req (Request S live service) → Addressed S live service → Type 0
  Replies throttles changes request addressed = IsReplyTo throttles changes request addressed.reply
