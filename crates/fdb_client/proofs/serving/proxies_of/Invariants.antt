use Rattle.std.proofs.Common.{◌≡◌, All, vec_len}
use Rattle.fdb_client.specs.private.Serving.{IsMadeFor}
use Rattle.fdb_client.proofs.serving.proxies_of.Given as goal

abbrev pub invariant-loop-number : goal.invariant-loop-number
invariant-loop-number g l = record {
  len : vec_len l.proxies ≡ l.number;
  made : All (IsMadeFor l.cluster.config) l.proxies.items;
}
