use Rattle.fdb_c.proofs.audited.faults_of.Goals as goal

pub returns-in-Some : goal.returns-in-Some
returns-in-Some c = rw (c.in-Some.is, ← c.numbers.ensures) c.findings.ensures.all
