use Rattle.std.proofs.Common.{◌≡◌, ◌+◌, drop}
use Rattle.fdb_history.specs.private.Auditing.{missing_in}
use Rattle.fdb_history.proofs.auditing.registers.first_missing.Given as goal

-- the changes that are left miss the position that all miss
abbrev pub invariant-loop-place : goal.invariant-loop-place
invariant-loop-place l = missing_in (l.place + 1) (drop l.place l.changes) ≡ missing_in 1 l.changes
