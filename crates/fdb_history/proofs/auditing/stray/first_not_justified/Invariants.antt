use Rattle.std.proofs.Common.{ℕ, ◌<◌}
use Rattle.fdb_history.specs.Strays.{NotJustified}
use Rattle.fdb_history.proofs.auditing.stray.first_not_justified.Given as goal

-- each call of the clients before this one is justified
abbrev pub invariant-loop-client : goal.invariant-loop-client
invariant-loop-client l = (client call : ℕ) → client < l.client → NotJustified l.chain l.logs client call → ⊥
