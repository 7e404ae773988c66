-- Whether an answer is to a request, and what it comes to. (this product's own)
use Rattle.std.specs.Prelude.{Bool, ◌&&◌, ◌==◌, not, if◌then◌else◌, Result, Ok, Err}
use Rattle.fdb_history.specs.declared.log.GrvOpts.{GrvOpts}
use Rattle.fdb_history.specs.declared.log.CallAnswer.{CallAnswer}
use Rattle.fdb_history.specs.declared.log.CallAnswer.TheVariants.{Version}
use Rattle.fdb_history.specs.declared.service.Service.{Ghosts as ServiceGhosts}
use Rattle.fdb_live.specs.declared.seen.Live.{Ghosts as LiveGhosts}
use Rattle.fdb_proxy.specs.declared.request.Answer.{Answer}
use Rattle.fdb_proxy.specs.declared.request.Answer.TheVariants as answer
use Rattle.fdb_proxy.specs.declared.request.Reply.{Reply}
use Rattle.fdb_client.specs.Returned.{error_of_proxy}
use Rattle.fdb_client.specs.declared.error.ClientError.{ClientError}
use Rattle.fdb_client.specs.declared.error.ClientError.TheVariants.{Stranger}
use Rattle.fdb_client.specs.declared.reply.RequestId.{RequestId}

-- whether two ids are of one request: client, serial and position are the same
abbrev pub is_same : RequestId → RequestId → Bool
is_same these those =
    (these.client == those.client)
    && ((these.serial == those.serial) && (these.asked == those.asked))

module _ {S : Type 0} {live : LiveGhosts S} {service : ServiceGhosts S} where
  -- the id of the request that an answer is to
  abbrev pub id_of : Answer S live service → RequestId
  id_of (answer.Reply reply) =
      record { client = reply.client; serial = reply.serial; asked = reply.asked }
  id_of (answer.Refused refused) =
      record { client = refused.client; serial = refused.serial; asked = refused.asked }

  -- what an answer says that is to one's own request: its reply, or the error for what refused it
  abbrev pub said : Answer S live service → Result (Reply S live service) ClientError
  said (answer.Reply reply) = Ok reply
  said (answer.Refused refused) = Err (error_of_proxy refused.cause)

  -- What an answer comes to: `Stranger` where it is to another request, whatever it says.
  abbrev pub reply_to : RequestId → Answer S live service → Result (Reply S live service) ClientError
  reply_to own answer = if is_same (id_of answer) own then said answer else Err Stranger

  -- How a reply is logged: it is turned away where the record is locked and the read not
  -- lock-aware.
  abbrev pub answer_of : Reply S live service → GrvOpts → CallAnswer
  answer_of reply opts = Version reply.rec reply.limits (reply.rec.locked && not opts.lock_aware)
