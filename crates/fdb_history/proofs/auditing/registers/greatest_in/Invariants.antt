use Rattle.std.proofs.Common.{◌≡◌, drop}
use Rattle.fdb_history.specs.private.Auditing.{farthest_in}
use Rattle.fdb_history.proofs.auditing.registers.greatest_in.Given as goal

-- the calls that are left go as far as all
abbrev pub invariant-loop-call : goal.invariant-loop-call
invariant-loop-call l = farthest_in l.greatest (drop l.call-index l.calls) ≡ farthest_in l.far l.calls
