use Rattle.std.proofs.Common.{◌≡◌, ◌≤◌, ◌++◌, length, vec_len, vec_capacity}
use Rattle.fdb_client.proofs.Numbered.{AreNew}
use Rattle.fdb_client.proofs.workload.clients_of.Given as goal

abbrev pub invariant-loop-token : goal.invariant-loop-token
invariant-loop-token g l = record {
  number : l.number ≡ length l.yielded;
  count : vec_len l.clients ≡ l.number;
  capacity : vec_len l.fn.tokens ≤ vec_capacity l.clients;
  left : l.yielded ++ l.token-iterator.rest.items ≡ l.fn.tokens.items;
  new : AreNew l.clients.items l.number;
}
