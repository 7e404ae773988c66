use Rattle.fdb_lines.specs.private.Known.{of_all, AreKnownOf}
use Rattle.fdb_lines.proofs.known.known_of_all.Given as goal

abbrev pub invariant-loop-line : goal.invariant-loop-line
invariant-loop-line l = AreKnownOf (of_all l.margin l.fn.seen l.lines) l.margin l.lines l.line-index l.known.items
