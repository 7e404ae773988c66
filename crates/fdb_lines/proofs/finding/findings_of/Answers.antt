use Rattle.fdb_lines.proofs.finding.findings_of.Goals as goal

pub returns-clause-explained : goal.returns-clause-explained
returns-clause-explained c = rw c.new-tables.ensures at c.findings_in.ensures.explained
