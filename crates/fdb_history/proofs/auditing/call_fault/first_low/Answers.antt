use Rattle.fdb_history.proofs.faults.ByTable.{first_low}
use Rattle.fdb_history.proofs.auditing.call_fault.first_low.Goals as goal

pub returns : goal.returns
returns c = first_low c.args.registers.now.start c.args.logs.now c.args.registers.now c.requires.order c.requires.registers _ c.first_call.ensures
