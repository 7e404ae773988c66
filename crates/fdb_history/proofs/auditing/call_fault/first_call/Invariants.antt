use Rattle.std.proofs.Common.{ℕ, ◌<◌}
use Rattle.fdb_history.specs.Faults.{StandsAt}
use Rattle.fdb_history.proofs.auditing.call_fault.first_call.Given as goal

-- none of the clients before this one has a call where it stands
abbrev pub invariant-loop-client : goal.invariant-loop-client
invariant-loop-client g l = (client call : ℕ) → client < l.client → StandsAt (g.F.CallFault.Stands l.fault) l.logs client call → ⊥
