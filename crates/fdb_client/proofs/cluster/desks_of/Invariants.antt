use Rattle.std.proofs.Common.{◌≡◌, ◌≤◌, vec_len, vec_capacity}
use Rattle.fdb_client.proofs.cluster.desks_of.Given as goal

abbrev pub invariant-loop : goal.invariant-loop
invariant-loop g l = record {
  count : vec_len l.desks ≡ l.counter;
  room : l.grv_proxies ≤ vec_capacity l.desks;
}
