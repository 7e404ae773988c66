use Rattle.std.proofs.Common.{◌≡◌, take}
use Rattle.fdb_queue.specs.Throttles.{limits_of}
use Rattle.fdb_queue.proofs.throttles.Throttles.limits.Given as goal

abbrev pub invariant-loop-tag : goal.invariant-loop-tag
invariant-loop-tag l = l.limits.items ≡ limits_of l.self l.priority l.at (take l.tag-index l.tags)
