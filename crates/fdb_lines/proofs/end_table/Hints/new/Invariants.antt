use Rattle.std.proofs.Common.{◌<◌, length}
use Rattle.fdb_lines.proofs.end_table.Hints.new.Given as goal

abbrev pub invariant-loop-guess : goal.invariant-loop-guess
invariant-loop-guess l = 0 < length l.places.items
