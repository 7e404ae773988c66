use Rattle.std.proofs.Common.{◌++◌, ℕ, List, map, take}
use Rattle.fdb_lines.specs.declared.fault.Finding.{Finding}
use Rattle.fdb_audit.specs.ToldFaults.{ToldFault, told_at}
use Rattle.fdb_audit.specs.private.{shown_in}
use Rattle.fdb_audit.specs.private.Followed.{HasCounted}
use Rattle.fdb_audit.proofs.teller.count_in.Given as goal

-- those so far are counted
abbrev pub invariant-loop-finding : goal.invariant-loop-finding
invariant-loop-finding l =
    (members : List (List ℕ)) (before : List ToldFault) → HasCounted members l.fn.told before
    → HasCounted members l.told
    (before ++ map (λ (finding : Finding). told_at (shown_in l.printer).lines (shown_in l.printer).names (shown_in l.printer).beside finding.found) (take l.finding-index l.found))
