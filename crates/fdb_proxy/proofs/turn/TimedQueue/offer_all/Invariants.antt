use Rattle.std.proofs.Common.{◌≡◌, ◌+◌, ◌≤◌, [], All, true, length, vec_len, vec_capacity}
use Rattle.std.specs.List.{FoldsTo}
use Rattle.fdb_proxy.specs.Cause.{is_of_an_offer}
use Rattle.fdb_proxy.specs.private.Turn.{Offering, Offers}
use Rattle.fdb_proxy.proofs.turn.TimedQueue.offer_all.Given as goal

-- whatever the offers that are left come to from here, all offers come to
abbrev pub invariant-loop-request : goal.invariant-loop-request
invariant-loop-request g l = record {
  forwards : (last : Offering g.row.T.Denot) → FoldsTo Offers (record { queue = l.self.queue; turned_away = l.turned_away.items }) l.request-iterator.rest.items last
      → FoldsTo Offers (record { queue = l.fn.self.queue; turned_away = [] }) l.fn.offered.items last;
  due : All (λ gone. is_of_an_offer gone.cause ≡ true) l.turned_away.items;
  elapsed : l.self.elapsed ≡ l.fn.self.elapsed;
  room : vec_len l.turned_away + length l.request-iterator.rest.items ≤ vec_capacity l.turned_away;
}
