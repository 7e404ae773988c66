use Rattle.fdb_history.proofs.chains.ChainLaws.{versions-AllPairs}
use Rattle.fdb_history.proofs.laws.versions_rise.Goals as goal

pub returns : goal.returns
returns c = versions-AllPairs
