use Rattle.std.proofs.Common.{◌≡◌, ◌*◌, ◌≤◌, take}
use Rattle.std.specs.List.{sum_by}
use Rattle.fdb_lines.specs.Log.{lines_of}
use Rattle.fdb_lines.specs.private.KeySums.{lines_in_all, ordered_of, unreported_of}
use Rattle.fdb_lines.proofs.sums.sums_of_parts.Given as goal

abbrev pub invariant-loop-part : goal.invariant-loop-part
invariant-loop-part l = record {
  unreported : l.sums.unreported ≡ sum_by (unreported_of (lines_of l.log) l.opts) (take l.part l.parts);
  few : l.sums.unreported ≤ lines_in_all (take l.part l.parts);
  ordered : l.sums.ordered ≡ sum_by (ordered_of (lines_of l.log) l.opts) (take l.part l.parts);
  pairs : l.sums.ordered ≤ lines_in_all (take l.part l.parts) * 4294967295;
}
