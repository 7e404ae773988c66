use Rattle.std.proofs.Common.{ap, arith, length}
use Rattle.fdb_audit.specs.Following.{KeptBefore}
use Rattle.fdb_audit.proofs.ReadLines.{counted}
use Rattle.fdb_audit.proofs.follower.Follower.read_count.Goals as goal

pub returns : goal.returns
returns c = λ start read told are.
    let lines = c.line_count.ensures in
    let count = are.count in
    let above = ap length are.numbered.above in
    let all = counted 0 read in
    let more = ap (λ (before : KeptBefore). before.more) are.numbered.front in
    let few = are.numbered.few in
    omega (arith, lines, count, above, all, more, few)
