use Rattle.std.proofs.Common.{◌≡◌}
use Rattle.std.specs.List.{All}
use Rattle.fdb_lines.specs.Keys.{keys_below}
use Rattle.fdb_lines.specs.private.Keys.{keys_in, part_number, AreNumbered}
use Rattle.fdb_lines.specs.private.KeySums.{lines_in_all}
use Rattle.fdb_lines.proofs.Parted.{IsPart}
use Rattle.fdb_lines.proofs.log.parts_of.Given as goal

abbrev pub invariant-loop-place : goal.invariant-loop-place
invariant-loop-place l = record {
  numbered : AreNumbered (part_number l.numbers) (keys_in l.parts.items);
  keys : keys_in l.parts.items ≡ keys_below l.keys l.place;
  places : All (IsPart l.keys l.place) l.parts.items;
  lines : lines_in_all l.parts.items ≡ l.place;
}
