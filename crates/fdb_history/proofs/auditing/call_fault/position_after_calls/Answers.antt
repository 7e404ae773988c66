use Rattle.std.proofs.Common.{◌-◌, length, arith}
use Rattle.fdb_history.proofs.faults.FirstCalls.{position-last}
use Rattle.fdb_history.proofs.auditing.call_fault.position_after_calls.Goals as goal

pub returns-in-len1-up : goal.returns-in-len1-up
returns-in-len1-up c = position-last 0 c.args.calls.now (length c.args.calls.now - 1) c.last-item.result (omega (arith, c.in-len1-up.len_at_least)) c.last-item.is
