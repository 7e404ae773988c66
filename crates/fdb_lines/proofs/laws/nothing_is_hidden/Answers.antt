use Rattle.fdb_lines.proofs.laws.nothing_is_hidden.Goals as goal
use Rattle.fdb_lines.proofs.Complete.{explained}

pub returns : goal.returns
returns c = explained
