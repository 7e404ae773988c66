use Rattle.std.proofs.Common.{arith}
use Rattle.std.proofs.lemmas.List.Elements.{All-push}
use Rattle.fdb_client.specs.private.Serving.{IsMadeFor}
use Rattle.fdb_client.proofs.serving.proxies_of.Goals as goal

pub loop-number-preserved : goal.loop-number-preserved
loop-number-preserved g c =
    let made = IsMadeFor c.args.cluster.now.config in
    record {
      len = omega (arith, c.in_ok-push.ensures.len, c.loop-number.invariant.len);
      made = rw c.in_ok-push.ensures.items (All-push made c.loop-number.proxies.items c.in_ok-grv_proxy.field-0 c.loop-number.invariant.made c.in_ok-grv_proxy.ensures);
    }
