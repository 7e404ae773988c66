use Rattle.std.proofs.Common.{◌≡◌, ◌++◌, map}
use Rattle.fdb_c.specs.Queue.{request_of}
use Rattle.fdb_c.proofs.queue_array.add_all.Given as goal

-- what was added so far
abbrev pub invariant-loop-request : goal.invariant-loop-request
invariant-loop-request l = l.list.items ≡ l.fn.list.items ++ map request_of l.yielded
