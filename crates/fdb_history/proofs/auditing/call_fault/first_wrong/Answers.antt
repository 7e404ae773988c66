use Rattle.fdb_history.proofs.faults.ByTable.{first_wrong}
use Rattle.fdb_history.proofs.auditing.call_fault.first_wrong.Goals as goal

pub returns : goal.returns
returns c = first_wrong c.args.registers.now.start c.args.logs.now c.args.registers.now c.requires.registers _ c.first_call.ensures
