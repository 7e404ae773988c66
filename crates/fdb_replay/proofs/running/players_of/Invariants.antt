use Rattle.std.proofs.Common.{◌≡◌, ◌≤◌, ◌++◌, vec_len, vec_capacity}
use Rattle.std.specs.List.{AllByRecursion}
use Rattle.fdb_replay.proofs.Finished.{HasNotCalled}
use Rattle.fdb_replay.proofs.running.players_of.Given as goal

abbrev pub invariant-loop-client : goal.invariant-loop-client
invariant-loop-client g l = record {
  capacity : vec_len l.fn.clients ≤ vec_capacity l.players;
  left : l.yielded ++ l.client-iterator.rest.items ≡ l.fn.clients.items;
  made : l.players.items ≡ l.yielded;
  new : AllByRecursion HasNotCalled l.client-iterator.rest.items;
}
