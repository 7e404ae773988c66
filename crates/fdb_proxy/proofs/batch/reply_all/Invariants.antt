use Rattle.std.proofs.Common.{◌≡◌, ◌+◌, ◌≤◌, ◌++◌, List, All, map, vec_len, vec_capacity}
use Rattle.std.specs.List.{AllZip}
use Rattle.std.specs.VecDeque.{deque_len}
use mathlib.Core.List.{IsPrefix}
use Rattle.fdb_proxy.specs.Batch.{Replies, own_limits}
use Rattle.fdb_queue.specs.declared.throttles.Throttle.{Throttle}
use Rattle.fdb_proxy.proofs.batch.reply_all.Given as goal

-- whatever answers the requests that are left, with the answers so far it answers all
abbrev pub invariant-loop-request : goal.invariant-loop-request
invariant-loop-request g l = record {
  same : l.seen ≡ l.fn.seen;
  told : All (λ request. IsPrefix request.payload.seen.changes l.fn.seen.changes) l.requests.items;
  limits : (throttles : List Throttle) → l.fn.room.limits.items ≡ map (own_limits throttles) l.fn.requests.items → l.limits.items ≡ map (own_limits throttles) l.requests.items;
  forwards : (throttles : List Throttle) → l.fn.room.limits.items ≡ map (own_limits throttles) l.fn.requests.items → (last : List _)
      → AllZip (Replies throttles l.fn.seen.changes) l.requests.items last
      → AllZip (Replies throttles l.fn.seen.changes) l.fn.requests.items (l.replies.items ++ last);
  pairs : deque_len l.limits ≡ deque_len l.requests;
  room : vec_len l.replies + deque_len l.requests ≤ vec_capacity l.replies;
}

abbrev pub decreases-loop-request : goal.decreases-loop-request
decreases-loop-request g l = deque_len l.requests
