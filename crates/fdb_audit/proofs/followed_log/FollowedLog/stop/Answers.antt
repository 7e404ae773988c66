use Rattle.std.proofs.Common.{false, string_bytes}
use Rattle.fdb_audit.proofs.PrintedOn.{printed_behind}
use Rattle.fdb_audit.proofs.followed_log.FollowedLog.stop.Goals as goal

pub returns-clause-told : goal.returns-clause-told
returns-clause-told g c = λ asked start bytes text has.
    printed_behind asked false c.args.self (string_bytes c.in_ok-front.front.text) c.in_ok-followed.field-0.followed c.in_ok-followed-2.followed c.in_ok-followed-2.ensures.text c.in_ok-followed-2.ensures.same
    (λ start bytes told has. (c.in_ok-followed.ensures.told asked start bytes told has, c.in_ok-followed.ensures.refused asked start bytes told has))
    start bytes text (c.in_ok-front.ensures asked start bytes text has)
