use Rattle.std.proofs.Common.{take}
use Rattle.fdb_audit.specs.private.Numbering.{AreTakenLines, kept_by}
use Rattle.fdb_audit.proofs.members.Numbering.lines_at.Given as goal

-- the lines so far
abbrev pub invariant-loop-taken : goal.invariant-loop-taken
invariant-loop-taken l = AreTakenLines (kept_by l.self) l.self.above.items (take l.taken-index l.places) l.lines.items
