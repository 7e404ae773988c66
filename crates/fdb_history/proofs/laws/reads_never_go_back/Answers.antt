use Rattle.fdb_history.proofs.histories.HistoryLaws.{seen_at-in_order, seen_at-at_least}
use Rattle.fdb_history.proofs.laws.reads_never_go_back.Goals as goal

pub returns-clause-in_order : goal.returns-clause-in_order
returns-clause-in_order c = seen_at-in_order

pub returns-clause-from_the_start : goal.returns-clause-from_the_start
returns-clause-from_the_start c = seen_at-at_least
