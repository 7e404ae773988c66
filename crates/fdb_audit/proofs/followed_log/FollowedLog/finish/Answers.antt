use Rattle.std.proofs.Common.{true, string_bytes}
use Rattle.fdb_audit.proofs.PrintedOn.{printed_behind}
use Rattle.fdb_audit.proofs.followed_log.FollowedLog.finish.Goals as goal

pub returns-clause-told : goal.returns-clause-told
returns-clause-told c = λ asked start bytes text has.
    printed_behind asked true c.args.self (string_bytes c.in_ok-front.front.text) c.in_ok-followed.followed c.in_ok-followed-2.followed c.in_ok-followed-2.ensures.text c.in_ok-followed-2.ensures.same
    (λ start bytes told has. (c.in_ok-followed.ensures.told asked start bytes told has, c.in_ok-followed.ensures.refused asked start bytes told has))
    start bytes text (c.in_ok-front.ensures asked start bytes text has)
