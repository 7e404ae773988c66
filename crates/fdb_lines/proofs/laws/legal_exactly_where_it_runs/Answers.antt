use Rattle.fdb_lines.proofs.laws.legal_exactly_where_it_runs.Goals as goal
use Rattle.fdb_lines.proofs.Steps.{legal_runs}

pub returns : goal.returns
returns c = legal_runs
