use Rattle.std.proofs.Common.{[], take}
use Rattle.fdb_audit.specs.private.{members_of}
use Rattle.fdb_audit.specs.Tallied.{HasTextsIn}
use Rattle.fdb_audit.proofs.told_faults.texts_of.Given as goal

-- those of the members so far
abbrev pub invariant-loop-column : goal.invariant-loop-column
invariant-loop-column l = HasTextsIn (members_of (take l.column-index l.columns)) [] l.texts.items
