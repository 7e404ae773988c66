use Rattle.std.proofs.Common.{rules}
use Rattle.fdb_client.proofs.client.Client.ask.Goals as goal

pub returns-clause-fresh : goal.returns-clause-fresh
returns-clause-fresh g c = c.reask.ensures.due.next (search rules)
