use Rattle.fdb_lines.specs.private.Ended.{HasTimes}
use Rattle.fdb_lines.proofs.pairs.EndTimes.new.Given as goal

abbrev pub invariant-loop-line : goal.invariant-loop-line
invariant-loop-line l = HasTimes l.lines l.line-index l.times.items
