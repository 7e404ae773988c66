use Rattle.fdb_history.proofs.chains.ChainLaws.{IsNext-at}
use Rattle.fdb_history.proofs.laws.each_is_next.Goals as goal

pub returns : goal.returns
returns c = IsNext-at
