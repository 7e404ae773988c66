use Rattle.fdb_client.proofs.Left.{HaveNumbersBelow}
use Rattle.fdb_client.proofs.workload.are_in_place.Given as goal

abbrev pub invariant-loop-place : goal.invariant-loop-place
invariant-loop-place g l = HaveNumbersBelow l.place l.clients
