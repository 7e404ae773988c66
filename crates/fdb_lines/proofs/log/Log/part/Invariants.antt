use Rattle.std.proofs.Common.{◌≡◌, map, take}
use Rattle.fdb_lines.specs.Lines.{line_at}
use Rattle.fdb_lines.proofs.log.Log.part.Given as goal

abbrev pub invariant-loop-place : goal.invariant-loop-place
invariant-loop-place l = l.lines.items ≡ map (line_at l.self.lines.items) (take l.place-index l.places)
