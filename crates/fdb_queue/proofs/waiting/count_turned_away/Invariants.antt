use Rattle.std.proofs.Common.{◌≡◌, ◌+◌, ◌≤◌, length}
use Rattle.std.specs.VecDeque.Iter.{deque_iter_rest}
use Rattle.fdb_queue.specs.NewRates.{turned_away}
use Rattle.fdb_queue.proofs.waiting.count_turned_away.Given as goal

abbrev pub invariant-loop-request : goal.invariant-loop-request
invariant-loop-request g l =
    (l.count + length (turned_away l.config (deque_iter_rest l.request-iterator)) ≡ length (turned_away l.config l.list.items))
    × (l.count + length (deque_iter_rest l.request-iterator) ≤ length l.list.items)
