use Rattle.std.proofs.Common.{◌≡◌}
use Rattle.fdb_lines.specs.Carried.{places_where}
use Rattle.fdb_lines.specs.private.Standing.{is_kept}
use Rattle.fdb_lines.proofs.standing_lines.standing.Given as goal

abbrev pub invariant-loop-place : goal.invariant-loop-place
invariant-loop-place l = l.places.items ≡ places_where (is_kept l.margin l.at l.lines l.shown l.known) l.place
