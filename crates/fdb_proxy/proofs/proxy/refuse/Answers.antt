use Rattle.std.proofs.lemmas.Result.{on_ok_weaker}
use Rattle.fdb_proxy.proofs.proxy.refuse.Goals as goal

pub returns-clause-sent : goal.returns-clause-sent
returns-clause-sent g c =
    let refused = c.refused-reply.ensures in
    on_ok_weaker c.send.result
    (λ sent. (
      c.refused-reply.result.1,
      record {
        client = refused.client;
        serial = refused.serial;
        asked = refused.asked;
        seen = refused.seen;
        cause = refused.cause;
      },
      sent,
    )) c.send.ensures.sent
