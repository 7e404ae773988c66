use Rattle.std.proofs.Common.{List, length}
use Rattle.fdb_log_reader.specs.Split.{Placed}
use Rattle.fdb_log_reader.specs.private.Placing.{Goes}
use Rattle.fdb_log_reader.proofs.splitter.Splitter.feed.Given as goal

-- some lines have come to their parts
abbrev pub invariant-loop-line : goal.invariant-loop-line
invariant-loop-line l = (placed : List Placed) × Goes l.fn.self l.fn.bytes placed l.self l.rest

abbrev pub decreases-loop-line : goal.decreases-loop-line
decreases-loop-line l = length l.rest
