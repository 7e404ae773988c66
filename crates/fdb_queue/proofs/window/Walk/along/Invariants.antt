use Rattle.std.proofs.Common.{◌≡◌, ◌≤◌, All, fold}
use Rattle.std.specs.VecDeque.Iter.{deque_iter_rest}
use Rattle.fdb_queue.specs.private.Walk.{walk_after, IsWithinLimits}
use Rattle.fdb_queue.specs.declared.config.TheConstants.{MAX_COUNT}
use Rattle.fdb_queue.proofs.window.Walk.along.Given as goal

abbrev pub invariant-loop-request : goal.invariant-loop-request
invariant-loop-request g l =
    IsWithinLimits l.walk
    × All (λ request. request.count ≤ MAX_COUNT) (deque_iter_rest l.request-iterator)
    × (fold (walk_after l.config l.budgets) l.walk (deque_iter_rest l.request-iterator) ≡ fold (walk_after l.config l.budgets) l.fn.self l.list.items)
