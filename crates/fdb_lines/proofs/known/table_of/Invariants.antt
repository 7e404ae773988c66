use Rattle.std.proofs.Common.{◌≤◌, length}
use Rattle.fdb_lines.specs.private.Known.{AreEnds}
use Rattle.fdb_lines.proofs.known.table_of.Given as goal

abbrev pub invariant-loop-place : goal.invariant-loop-place
invariant-loop-place l = record {
  ends : AreEnds l.by_client l.seen l.lines l.place l.ends.items;
  few : length l.ends.items ≤ l.place;
}
