use Rattle.std.proofs.Common.{◌+◌, ◌≤◌, length, drop, vec_len, vec_capacity}
use Rattle.fdb_queue.specs.NewRates.{turned_away}
use Rattle.fdb_queue.proofs.Rerating.{IsSifted}
use Rattle.fdb_queue.proofs.waiting.move_turned_away.Given as goal

abbrev pub invariant-loop : goal.invariant-loop
invariant-loop g l =
    IsSifted l.config l.fn.list.items l.list.items l.fn.out.items l.out.items l.counter
    × (vec_len l.out + length (turned_away l.config (drop l.counter l.fn.list.items)) ≤ vec_capacity l.out)
