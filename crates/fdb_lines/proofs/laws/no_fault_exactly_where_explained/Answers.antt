use Rattle.fdb_lines.proofs.laws.no_fault_exactly_where_explained.Goals as goal
use Rattle.fdb_lines.proofs.Listed.{law}

pub returns : goal.returns
returns c = law
