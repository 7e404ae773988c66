use Rattle.std.proofs.Common.{◌≡◌, ℕ, ◌<◌, ◌≤◌, length}
use Rattle.fdb_lines.specs.Before.{by_time}
use Rattle.fdb_lines.specs.private.Known.{by_at, lets_know, KnowsOf}
use Rattle.fdb_lines.proofs.known.add_own.Given as goal

abbrev pub invariant-loop-place : goal.invariant-loop-place
invariant-loop-place l = record {
  as_many : length l.known.items ≡ length l.lines;
  with_own : (k : ℕ) → k < l.place → KnowsOf (lets_know (by_time l.fn.margin l.lines) l.fn.seen l.lines) l.fn.margin l.lines k (by_at l.known.items k);
  left : (k : ℕ) → l.place ≤ k → by_at l.known.items k ≡ by_at l.initial.known.items k;
}
