use Rattle.fdb_audit.proofs.PrintedOn.{cut_if, printed_same}
use Rattle.fdb_audit.proofs.followed_log.FollowedLog.go_on.Goals as goal

pub returns : goal.returns
returns c = λ asked start bytes text (objects, asks, times, pieces).
    let (follower, reporter, given) = c.note_nothing.ensures.same in
    let (times, left) = cut_if asked c.args.self.now.follower c.go_on.new.self c.in_ok-goes_on.goes_on
    (λ is start bytes told has. c.in_ok-goes_on.ensures.gone_on is asked start bytes told asks has) c.in_ok-goes_on.ensures.same times start bytes text pieces in
    printed_same asked start (record c.args.self.now { follower = c.go_on.new.self }) c.note_nothing.new.self bytes text follower reporter given (objects, asks, times, left)
