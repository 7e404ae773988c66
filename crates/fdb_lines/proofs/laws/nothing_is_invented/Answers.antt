use Rattle.fdb_lines.proofs.laws.nothing_is_invented.Goals as goal
use Rattle.fdb_lines.proofs.Sound.{invented}

pub returns : goal.returns
returns c = invented
