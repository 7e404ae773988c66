use Rattle.std.proofs.Common.{◌≡◌, All, true}
use Rattle.fdb_proxy.specs.Cause.{is_of_an_offer}
use Rattle.fdb_proxy.specs.private.Sent.{AreTurnedAway}
use Rattle.fdb_proxy.proofs.proxy.turn_away.Given as goal

-- whatever the refusals that are left come to from here, all refusals come to
abbrev pub invariant-loop-gone : goal.invariant-loop-gone
invariant-loop-gone g l = record {
  due : All (λ gone. is_of_an_offer gone.cause ≡ true) l.gone-iterator.rest.items;
  forwards : (last : g.row.O.Denot) → AreTurnedAway g.O.Outbox.sends l.out l.gone-iterator.rest.items last → AreTurnedAway g.O.Outbox.sends l.fn.out l.fn.turned_away.items last;
}
