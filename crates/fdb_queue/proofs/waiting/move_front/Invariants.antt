use Rattle.std.proofs.Common.{◌≡◌, ◌+◌, ◌++◌, take, drop, vec_len, vec_capacity}
use Rattle.fdb_queue.proofs.waiting.move_front.Given as goal

abbrev pub invariant-loop : goal.invariant-loop
invariant-loop g l =
    (l.taken.items ≡ l.fn.taken.items ++ take l.counter l.fn.list.items)
    × (l.list.items ≡ drop l.counter l.fn.list.items)
    × (vec_len l.taken ≡ vec_len l.fn.taken + l.counter)
    × (vec_capacity l.taken ≡ vec_capacity l.fn.taken)
