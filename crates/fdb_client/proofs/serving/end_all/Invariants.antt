use Rattle.std.proofs.Common.{◌≡◌, ◌+◌, ◌≤◌, vec_capacity, vec_len}
use Rattle.fdb_client.proofs.serving.end_all.Given as goal

-- each thread is still to join, or it is kept how it ended; and there is capacity for all
abbrev pub invariant-loop-thread : goal.invariant-loop-thread
invariant-loop-thread g l = record {
  each : vec_len l.served + l.thread-iterator.rest.len ≡ vec_len l.fn.threads;
  capacity : vec_len l.fn.threads ≤ vec_capacity l.served;
}
