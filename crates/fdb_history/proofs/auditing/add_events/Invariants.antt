use Rattle.std.proofs.Common.{◌≡◌, ◌++◌, drop}
use Rattle.fdb_history.specs.Log.{placed_from}
use Rattle.fdb_history.proofs.auditing.add_events.Given as goal

-- with the events of the calls to come, the list has those of all the calls
abbrev pub invariant-loop-place : goal.invariant-loop-place
invariant-loop-place l = l.all.items ++ placed_from l.client l.place (drop l.place l.calls) ≡ l.fn.all.items ++ placed_from l.client 0 l.calls
