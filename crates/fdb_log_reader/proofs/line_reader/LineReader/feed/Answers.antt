use Rattle.std.proofs.Common.{subst, sym}
use Rattle.fdb_log_reader.specs.private.Following.{Follows}
use Rattle.fdb_log_reader.proofs.SingleLines.{follows_on}
use Rattle.fdb_log_reader.proofs.line_reader.LineReader.feed.Goals as goal

pub loop-line-preserved : goal.loop-line-preserved
loop-line-preserved c =
    let old = c.args.self.now in
    let bytes = c.args.bytes.now in
    let new = c.take_line.new.self in
    let after = c.in-Some.after.now in
    subst (λ lines. Follows old bytes lines new after) (sym c.in_ok-push.ensures.items)
    (follows_on old c.loop-line.self new bytes c.loop-line.rest.now c.in-Some.line.now after c.loop-line.lines.items c.in_ok-read.read c.loop-line.invariant c.in-Some.ensures.0 c.in_ok-read.ensures)
