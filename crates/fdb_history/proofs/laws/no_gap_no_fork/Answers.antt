use Rattle.fdb_history.proofs.chains.ChainLaws.{chain-begins, no_gap, no_fork}
use Rattle.fdb_history.proofs.laws.no_gap_no_fork.Goals as goal

pub returns-clause-begins : goal.returns-clause-begins
returns-clause-begins c = λ epoch_end recovery answers first chain at. (chain-begins epoch_end recovery answers first chain at).0

pub returns-clause-no_gap : goal.returns-clause-no_gap
returns-clause-no_gap c = no_gap

pub returns-clause-no_fork : goal.returns-clause-no_fork
returns-clause-no_fork c = no_fork
