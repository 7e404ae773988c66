use Rattle.std.proofs.Common.{◌≡◌, map, slice_index, take}
use Rattle.fdb_lines.proofs.watch.numbers_at.Given as goal

abbrev pub invariant-loop-place : goal.invariant-loop-place
invariant-loop-place l = l.some.items ≡ map (slice_index l.numbers) (take l.place-index l.places)
