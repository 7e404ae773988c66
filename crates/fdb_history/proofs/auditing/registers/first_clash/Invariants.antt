use Rattle.std.proofs.Common.{◌≡◌, drop}
use Rattle.fdb_history.specs.private.Auditing.{clash_in}
use Rattle.fdb_history.proofs.auditing.registers.first_clash.Given as goal

-- the changes that are left have the first clash of all
abbrev pub invariant-loop-change : goal.invariant-loop-change
invariant-loop-change l = clash_in l.before (drop l.change-index l.changes) ≡ clash_in 0 l.changes
