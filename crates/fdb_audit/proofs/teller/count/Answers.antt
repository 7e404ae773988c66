use Rattle.std.proofs.Common.{subst}
use Rattle.std.proofs.lemmas.Result.{on_ok_weaker}
use Rattle.fdb_audit.specs.private.Followed.{HasTotalsIn}
use Rattle.fdb_audit.proofs.teller.count.Goals as goal

pub returns-in-Some : goal.returns-in-Some
returns-in-Some c =
    on_ok_weaker c.count_in.result
    (λ more. λ totals members before has.
    let counted = subst (λ told. HasTotalsIn totals members told before) c.in-Some.is has in
    (counted.0, more members before counted.1))
    c.count_in.ensures
