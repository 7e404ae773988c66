use Rattle.fdb_history.specs.private.Auditing.{NoneBefore}
use Rattle.fdb_history.proofs.auditing.call_fault.first_of.Given as goal

abbrev pub invariant-loop-place : goal.invariant-loop-place
invariant-loop-place g l = NoneBefore (g.F.CallFault.Stands l.fault) l.calls l.place
