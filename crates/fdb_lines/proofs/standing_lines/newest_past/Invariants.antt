use Rattle.fdb_lines.specs.private.Entries.{IsNewest}
use Rattle.fdb_lines.specs.private.Known.{version_in}
use Rattle.fdb_lines.specs.private.Standing.{counts_past}
use Rattle.fdb_lines.proofs.standing_lines.newest_past.Given as goal

abbrev pub invariant-loop-place : goal.invariant-loop-place
invariant-loop-place l = IsNewest (counts_past l.margin l.at l.drawn l.lines) (version_in l.lines) l.place l.newest
