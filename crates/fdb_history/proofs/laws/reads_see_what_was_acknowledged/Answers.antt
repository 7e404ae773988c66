use Rattle.std.proofs.Common.{le_trans}
use Rattle.fdb_history.proofs.histories.KnownCommits.{known, follows_in}
use Rattle.fdb_history.proofs.laws.reads_see_what_was_acknowledged.Goals as goal

pub returns-clause-known : goal.returns-clause-known
returns-clause-known c = known

pub returns-clause-own : goal.returns-clause-own
returns-clause-own c start logs history client committed place commit read reported seen raised changed locked_out limits linear at_commit is_commit at_read is_read order =
    known start logs history client client committed place commit read reported seen raised changed locked_out limits linear at_commit is_commit at_read is_read
    (follows_in start logs history linear client committed place commit read at_commit at_read order)

pub returns-clause-learnt : goal.returns-clause-learnt
returns-clause-learnt c start logs history writer reader committed told place commit learn read reported seen raised changed locked_out limits linear at_commit is_commit at_learn reaches at_read is_read order =
    known start logs history writer reader committed place commit read reported seen raised changed locked_out limits linear at_commit is_commit at_read is_read
    (le_trans reaches (follows_in start logs history linear reader told place learn read at_learn at_read order))
