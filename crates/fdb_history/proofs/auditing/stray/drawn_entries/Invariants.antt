use Rattle.fdb_history.specs.private.Auditing.{AreMarks}
use Rattle.fdb_history.proofs.chains.Marks.{drawn_below}
use Rattle.fdb_history.proofs.auditing.stray.drawn_entries.Given as goal

-- what the clients before this one drew is marked
abbrev pub invariant-loop-client : goal.invariant-loop-client
invariant-loop-client l = AreMarks l.chain l.drawn.items (drawn_below l.logs l.client)
