use Rattle.fdb_lines.proofs.HowFar.{far_none}
use Rattle.fdb_lines.proofs.laws.a_key_without_lines_has_not_settled.Goals as goal

pub returns : goal.returns
returns c = far_none
