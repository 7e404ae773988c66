use Rattle.std.proofs.Common.{◌≡◌, ◌≤◌, ◌++◌, vec_len, vec_capacity}
use Rattle.fdb_replay.proofs.running.finish.Given as goal

abbrev pub invariant-loop-player : goal.invariant-loop-player
invariant-loop-player g l = record {
  left : l.yielded ++ l.player-iterator.rest.items ≡ l.fn.players.items;
  capacity : vec_len l.fn.players ≤ vec_capacity l.clients;
  taken : l.clients.items ≡ l.yielded;
}
