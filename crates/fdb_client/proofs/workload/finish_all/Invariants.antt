use Rattle.std.proofs.Common.{◌≡◌, ◌++◌, map}
use Rattle.std.specs.List.{AllByRecursion}
use Rattle.fdb_client.specs.Account.{sight}
use Rattle.fdb_client.specs.Settling.{logs_of}
use Rattle.fdb_client.proofs.Left.{MaySettle}
use Rattle.fdb_client.proofs.workload.finish_all.Given as goal

abbrev pub invariant-loop-client : goal.invariant-loop-client
invariant-loop-client g l = record {
  left : l.yielded ++ l.client-iterator.rest.items ≡ l.fn.clients.items;
  logs : l.logs.items ≡ logs_of l.yielded;
  tokens : l.tokens.items ≡ map sight l.yielded;
  settled : AllByRecursion (MaySettle g.S.Service.epoch_end g.S.Service.recovery g.S.Service.start) l.yielded;
}
