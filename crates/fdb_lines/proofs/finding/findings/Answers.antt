use Rattle.fdb_lines.proofs.finding.findings.Goals as goal

pub returns-in-Some-clause-explained : goal.returns-in-Some-clause-explained
returns-in-Some-clause-explained c = rw c.in-Some.is c.findings_by_key.ensures.explained

pub returns-in-None-clause-explained : goal.returns-in-None-clause-explained
returns-in-None-clause-explained c = rw c.in-None.is c.findings_of.ensures.explained
