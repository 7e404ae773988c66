use Rattle.std.proofs.Common.{◌≡◌}
use Rattle.fdb_audit.proofs.clocks.KeyTimes.of_lines.Given as goal

abbrev pub invariant-loop : goal.invariant-loop
invariant-loop l = record { wanted : l.next.are_wanted ≡ l.fn.self.are_wanted }

abbrev pub invariant-loop-line : goal.invariant-loop-line
invariant-loop-line l = record { wanted : l.next.are_wanted ≡ l.fn.self.are_wanted }
