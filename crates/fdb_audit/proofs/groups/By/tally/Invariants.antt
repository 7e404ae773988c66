use Rattle.std.proofs.Common.{take}
use Rattle.fdb_audit.specs.Groups.{owned_by}
use Rattle.fdb_audit.specs.private.{grouping_of}
use Rattle.fdb_audit.specs.Tallied.{HasTallied}
use Rattle.fdb_audit.proofs.groups.By.tally.Given as goal

-- those so far are counted
abbrev pub invariant-loop-it : goal.invariant-loop-it
invariant-loop-it l = HasTallied l.tally (owned_by (grouping_of l.self) (take l.it-index l.found))
