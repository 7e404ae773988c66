use Rattle.std.proofs.Common.{◌≡◌, drop}
use Rattle.fdb_history.specs.private.Auditing.{farthest}
use Rattle.fdb_history.proofs.auditing.registers.greatest_position.Given as goal

-- the logs that are left go as far as all
abbrev pub invariant-loop-log : goal.invariant-loop-log
invariant-loop-log l = farthest l.greatest (drop l.log-index l.logs) ≡ farthest 0 l.logs
