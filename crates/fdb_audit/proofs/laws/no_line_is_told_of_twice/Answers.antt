use Rattle.fdb_audit.proofs.ToldApart.{told_apart}
use Rattle.fdb_audit.proofs.laws.no_line_is_told_of_twice.Goals as goal

pub returns : goal.returns
returns c = told_apart
