use Rattle.std.proofs.Common.{◌≡◌, ◌≤◌, length, map, take, vec_len, vec_capacity}
use Rattle.fdb_proxy.specs.Batch.{own_limits}
use Rattle.fdb_proxy.proofs.batch.room_for.Given as goal

abbrev pub invariant-loop-request : goal.invariant-loop-request
invariant-loop-request g l = record {
  limits : l.limits.items ≡ map (own_limits l.queue.throttles) (take l.request-index l.requests);
  len : vec_len l.limits ≡ l.request-index;
  capacity : length l.requests ≤ vec_capacity l.limits;
}
