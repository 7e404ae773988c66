use Rattle.fdb_lines.specs.private.Ended.{HasEnds}
use Rattle.fdb_lines.proofs.pairs.Ended.new.Given as goal

abbrev pub invariant-loop-place : goal.invariant-loop-place
invariant-loop-place l = HasEnds l.lines l.place l.ends.items
