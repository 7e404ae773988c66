use Rattle.std.proofs.Common.{subst}
use Rattle.fdb_client.specs.Agreeing.{Agrees}
use Rattle.fdb_client.proofs.Beginnings.{begun_anywhere}
use Rattle.fdb_client.proofs.client.Client.finish.Goals as goal

pub returns-clause-settles : goal.returns-clause-settles
returns-clause-settles g c =
    begun_anywhere g.S.Service.start c.args.self (subst (Agrees g.S.Service.start) c.self.view_is c.self.invariant.2)
