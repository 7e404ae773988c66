use Rattle.std.proofs.Common.{◌≡◌, ◌++◌, take, drop, length, map}
use Rattle.fdb_c.specs.Rates.{turned_away_of}
use Rattle.fdb_c.proofs.queue_limits.write_all.Given as goal

-- those so far, those that are left, and what stands behind them
abbrev pub invariant-loop-place : goal.invariant-loop-place
invariant-loop-place l = record {
  written : take l.place l.turned_away ++ map turned_away_of (drop l.place l.out) ≡ map turned_away_of l.fn.out;
  behind : drop l.place l.turned_away ≡ drop l.place l.fn.turned_away;
  room : length l.turned_away ≡ length l.fn.turned_away;
}
