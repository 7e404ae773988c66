use Rattle.std.proofs.Common.{◌≡◌, ◌++◌, drop}
use Rattle.fdb_history.specs.Explained.{placed_in}
use Rattle.fdb_history.proofs.auditing.placed_in.Given as goal

-- with the events of the clients to come, the list has those of all the clients
abbrev pub invariant-loop-client : goal.invariant-loop-client
invariant-loop-client l = l.all.items ++ placed_in l.client (drop l.client l.logs) ≡ placed_in 0 l.logs
