use Rattle.std.proofs.Common.{ℕ}
use Rattle.std.specs.BTreeMap.{get}
use Rattle.std.specs.Ordering.{nat_cmp}
use Rattle.fdb_lines.specs.Before.{by_telling}
use Rattle.fdb_lines.specs.private.Known.{lets_know, AreKnownOf}
use Rattle.fdb_lines.specs.private.Telling.{IsHeard}
use Rattle.fdb_lines.proofs.known.known_by_telling.Given as goal

abbrev pub invariant-loop-place : goal.invariant-loop-place
invariant-loop-place l = record {
  known : (margin : ℕ) → AreKnownOf (lets_know (by_telling l.lines) l.seen l.lines) margin l.lines l.place l.known.items;
  newest : (q : ℕ) → IsHeard l.seen l.lines l.place q (get nat_cmp l.newest q);
}
