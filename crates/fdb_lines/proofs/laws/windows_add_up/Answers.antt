use Rattle.fdb_lines.proofs.Windows.{told_after, told_before}
use Rattle.fdb_lines.proofs.laws.windows_add_up.Goals as goal

pub returns-clause-before : goal.returns-clause-before
returns-clause-before c = told_before

pub returns-clause-after : goal.returns-clause-after
returns-clause-after c = told_after
