use Rattle.std.proofs.Common.{◌≡◌, ◌++◌, take, drop, length}
use Rattle.fdb_c.specs.Queue.{started_each, told_each}
use Rattle.fdb_c.proofs.queue_array.tell_each.Given as goal

-- the outcomes so far and those of what is left, and the same of the requests that start
abbrev pub invariant-loop-place : goal.invariant-loop-place
invariant-loop-place l = record {
  told : take l.place l.outcomes ++ told_each l.queue (drop l.place l.ops) ≡ told_each l.fn.queue l.ops;
  behind : drop l.place l.outcomes ≡ drop l.place l.fn.outcomes;
  room : length l.outcomes ≡ length l.fn.outcomes;
  started : l.started.items ++ started_each l.queue (drop l.place l.ops) ≡ l.fn.started.items ++ started_each l.fn.queue l.ops;
}
