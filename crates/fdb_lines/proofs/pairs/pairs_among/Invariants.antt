use Rattle.std.proofs.Common.{◌≡◌, ◌+◌, ◌-◌, ◌*◌, ◌≤◌, length}
use Rattle.fdb_lines.specs.Before.{by_time}
use Rattle.fdb_lines.specs.private.Ended.{pairs_below}
use Rattle.fdb_lines.proofs.pairs.pairs_among.Given as goal

abbrev pub invariant-loop-place : goal.invariant-loop-place
invariant-loop-place l = record {
  pairs : l.pairs + pairs_below (by_time l.margin l.lines) (length l.lines) l.from ≡ pairs_below (by_time l.margin l.lines) (length l.lines) l.place;
  fit : l.pairs ≤ (l.place - l.from) * 4294967295;
}
