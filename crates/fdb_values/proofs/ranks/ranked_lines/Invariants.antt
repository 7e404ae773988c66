use Rattle.std.proofs.Common.{◌≡◌, map, take}
use Rattle.fdb_values.specs.ByValue.{ranked_line}
use Rattle.fdb_values.specs.Zones.{rank_by_zone}
use Rattle.fdb_values.proofs.ranks.ranked_lines.Given as goal

abbrev pub invariant-loop-line : goal.invariant-loop-line
invariant-loop-line l = l.made.items ≡ map (ranked_line (rank_by_zone l.margin l.lines)) (take l.line-index l.lines)
