use Rattle.fdb_queue.proofs.Lawful.{prefix, starts, in_range, longer, head}
use Rattle.fdb_queue.proofs.laws.windows_pass_over_nobody.Goals as goal

pub returns-clause-prefix : goal.returns-clause-prefix
returns-clause-prefix g c = prefix

pub returns-clause-may_start : goal.returns-clause-may_start
returns-clause-may_start g c = starts

pub returns-clause-in_range : goal.returns-clause-in_range
returns-clause-in_range g c = in_range

pub returns-clause-longest : goal.returns-clause-longest
returns-clause-longest g c = longer

pub returns-clause-head : goal.returns-clause-head
returns-clause-head g c = head
