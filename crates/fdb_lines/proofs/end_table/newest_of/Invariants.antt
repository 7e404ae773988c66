use Rattle.std.proofs.Common.{◌≡◌, ℕ, ◌<◌, length, slice_index}
use Rattle.fdb_lines.specs.private.EndTable.{IsNewestAt}
use Rattle.fdb_lines.proofs.end_table.newest_of.Given as goal

abbrev pub invariant-loop-i : goal.invariant-loop-i
invariant-loop-i l = record {
  as_many : length l.newest.items ≡ l.i;
  newest : (k : ℕ) → k < l.i → IsNewestAt l.ends k (slice_index l.newest.items k);
}
