use Rattle.std.proofs.Common.{ℕ, Bool, take}
use Rattle.fdb_history.specs.private.Auditing.{AreMarks}
use Rattle.fdb_history.specs.declared.chain.Issued.{Issued}
use Rattle.fdb_history.proofs.chains.Marks.{drawn_too}
use Rattle.fdb_history.proofs.auditing.stray.mark_drawn.Given as goal

-- what the calls before this one drew is marked
abbrev pub invariant-loop-call : goal.invariant-loop-call
invariant-loop-call l = (was : ℕ → Issued → Bool) → AreMarks l.chain l.initial.drawn was → AreMarks l.chain l.drawn (drawn_too was l.client (take l.call-index l.calls))
