use Rattle.std.proofs.Common.{arith}
use Rattle.std.proofs.lemmas.Grind.{common_steps}
use Rattle.fdb_script.proofs.lines.AnswerTextDisplay.fmt.Goals as goal

pub returns-in-Answered-clause-writes : goal.returns-in-Answered-clause-writes
returns-in-Answered-clause-writes g c = grind (arith, common_steps)

pub returns-in-Acked-clause-writes : goal.returns-in-Acked-clause-writes
returns-in-Acked-clause-writes g c = grind (arith, common_steps)

pub returns-in-Version-default-default-true-clause-writes : goal.returns-in-Version-default-default-true-clause-writes
returns-in-Version-default-default-true-clause-writes g c = grind (arith, common_steps)

pub returns-in-Version-default-default-false-clause-writes : goal.returns-in-Version-default-default-false-clause-writes
returns-in-Version-default-default-false-clause-writes g c = grind (arith, common_steps)

pub returns-in-Learn-clause-writes : goal.returns-in-Learn-clause-writes
returns-in-Learn-clause-writes g c = grind (arith, common_steps)

pub returns-in-Tell-clause-writes : goal.returns-in-Tell-clause-writes
returns-in-Tell-clause-writes g c = grind (arith, common_steps)

pub returns-in-Refused-clause-writes : goal.returns-in-Refused-clause-writes
returns-in-Refused-clause-writes g c = grind (arith, common_steps)
