use Rattle.std.proofs.Common.{◌≡◌, ◌<◌, take, true}
use Rattle.fdb_lines.specs.Log.{lines_of}
use Rattle.fdb_values.proofs.ranks.ranked_log.Given as goal

abbrev pub invariant-loop-line : goal.invariant-loop-line
invariant-loop-line l = record {
  lines : (lines_of l.made).lines ≡ take l.line-index l.line-items;
  timed : 0 < l.line-index → (lines_of l.made).timed ≡ true;
}
