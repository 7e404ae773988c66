use Rattle.std.proofs.Common.{◌≡◌, true}
use Rattle.std.proofs.lemmas.List.Elements.{All-tail}
use Rattle.fdb_proxy.specs.Cause.{is_of_an_offer}
use Rattle.fdb_proxy.proofs.proxy.turn_away.Goals as goal

pub loop-gone-preserved : goal.loop-gone-preserved
loop-gone-preserved g c =
    let due = rw c.in-Some.ensures.steps.0 at c.loop-gone.invariant.due in
    let forwards = rw c.in-Some.ensures.steps.0 at c.loop-gone.invariant.forwards in
    record {
      due = All-tail (λ gone. is_of_an_offer gone.cause ≡ true) c.in-Some.gone c.next.new.self.rest.items due;
      forwards = λ last rest. forwards last (c.refuse.new.out, c.in_ok-refuse.ensures.sent, rest);
    }
