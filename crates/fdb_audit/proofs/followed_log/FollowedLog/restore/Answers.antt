use Rattle.fdb_audit.specs.Program.{start_kept}
use Rattle.fdb_audit.proofs.followed_log.FollowedLog.restore.Goals as goal

pub returns-clause-begun : goal.returns-clause-begun
returns-clause-begun g c =
    let (kept, more, has) = c.in_ok-follower.ensures.followed in
    (kept, more, c.in_ok-log.ensures (start_kept c.args.asked.now c.args.behind more kept) kept has)
