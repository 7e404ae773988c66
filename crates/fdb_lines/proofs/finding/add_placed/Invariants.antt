use Rattle.std.proofs.Common.{◌≡◌, ◌++◌, map, take}
use Rattle.fdb_lines.specs.Keys.{placed_finding}
use Rattle.fdb_lines.proofs.finding.add_placed.Given as goal

abbrev pub invariant-loop-finding : goal.invariant-loop-finding
invariant-loop-finding l = l.found.items ≡ l.initial.found.items ++ map (placed_finding l.places) (take l.finding-index l.here)
