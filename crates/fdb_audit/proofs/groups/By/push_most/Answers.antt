use Rattle.std.proofs.lemmas.Result.{on_ok_weaker}
use Rattle.fdb_audit.specs.Groups.{owned_by}
use Rattle.fdb_audit.specs.private.{grouping_of}
use Rattle.fdb_audit.proofs.groups.By.push_most.Goals as goal

pub returns : goal.returns
returns c = on_ok_weaker c.push_tally.result (λ most. most (owned_by (grouping_of c.args.self) c.args.found.now) c.in_ok-tally.ensures) c.push_tally.ensures
