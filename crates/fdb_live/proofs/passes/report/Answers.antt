use Rattle.std.proofs.Common.{arith}
use Rattle.fdb_live.proofs.Reports.{room}
use Rattle.fdb_live.proofs.passes.report.Goals as goal

pub overflow_add-next : goal.overflow_add-next
overflow_add-next g c =
    let below = room _ _ _ c.look-found.ensures.looks c.requires.opened in
    omega arith
