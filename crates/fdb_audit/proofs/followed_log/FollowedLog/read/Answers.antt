use Rattle.std.proofs.lemmas.Result.{on_ok_weaker}
use Rattle.fdb_audit.proofs.PrintedOn.{read_more}
use Rattle.fdb_audit.proofs.followed_log.FollowedLog.read.Goals as goal

pub returns : goal.returns
returns c =
    on_ok_weaker c.feed.result
    (λ feeds. λ asked start before text (objects, asks, times, pieces). (
      objects,
      asks,
      times,
      read_more asked c.args.self.now.follower c.feed.new.self c.args.bytes.now (λ start bytes told has. feeds asked start bytes told has) times start before text pieces,
    ))
    c.feed.ensures.followed
