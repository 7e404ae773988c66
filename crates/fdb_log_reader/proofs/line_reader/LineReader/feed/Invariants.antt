use Rattle.std.proofs.Common.{length}
use Rattle.fdb_log_reader.specs.private.Following.{Follows}
use Rattle.fdb_log_reader.proofs.line_reader.LineReader.feed.Given as goal

abbrev pub invariant-loop-line : goal.invariant-loop-line
invariant-loop-line l = Follows l.fn.self l.fn.bytes l.lines.items l.self l.rest

abbrev pub decreases-loop-line : goal.decreases-loop-line
decreases-loop-line l = length l.rest
