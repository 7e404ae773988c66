use Rattle.std.proofs.Common.{ap, arith, sym}
use Rattle.fdb_audit.specs.Following.{Counted, taken}
use Rattle.fdb_audit.proofs.Following.{no_line_left, some_line}
use Rattle.fdb_audit.proofs.taken_lines.Taking.no_line.Goals as goal

pub returns-then-lines-gt0 : goal.returns-then-lines-gt0
returns-then-lines-gt0 c = λ start read told are carried.
    let count = are.count in
    let lines = ap (λ (counts : Counted). counts.lines) carried.counts in
    let is = c.saturating_add-lines.ensures in
    let some = c.if-lines-gt0.true in
    sym (some_line (taken read) start.before.counts.lines (omega (arith, count, lines, is, some)))

pub returns : goal.returns
returns c = λ start read told are carried.
    let count = are.count in
    let lines = ap (λ (counts : Counted). counts.lines) carried.counts in
    let is = c.saturating_add-lines.ensures in
    let few = c.if-lines-gt0.false in
    sym (no_line_left (taken read) start.before.counts.lines (omega (arith, count, is, few)) (omega (arith, lines, is, few)))
