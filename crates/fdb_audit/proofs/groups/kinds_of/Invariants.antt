use Rattle.std.proofs.Common.{map, take}
use Rattle.fdb_lines.specs.declared.fault.Found.{Found}
use Rattle.fdb_audit.specs.Tallied.{HasKinds}
use Rattle.fdb_audit.proofs.groups.kinds_of.Given as goal

-- those so far are counted
abbrev pub invariant-loop-it : goal.invariant-loop-it
invariant-loop-it l = HasKinds l.kinds (map (λ (it : Found). it.fault) (take l.it-index l.found))
