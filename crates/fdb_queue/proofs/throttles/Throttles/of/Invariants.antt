use Rattle.std.proofs.Common.{reverse, take}
use Rattle.fdb_queue.specs.Throttles.{SameThrottles}
use Rattle.fdb_queue.proofs.throttles.Throttles.of.Given as goal

abbrev pub invariant-loop-throttle : goal.invariant-loop-throttle
invariant-loop-throttle l = SameThrottles l.kept (reverse (take l.throttle-index l.throttles))
