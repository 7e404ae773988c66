use Rattle.fdb_lines.proofs.finding.first_finding.Goals as goal

pub returns-in-None-clause-explained : goal.returns-in-None-clause-explained
returns-in-None-clause-explained c = rw c.in-None.is c.first_of.ensures.explained
