use Rattle.std.proofs.Common.{ℕ, List}
use Rattle.fdb_audit.specs.ToldFaults.{told_at, ToldFault}
use Rattle.fdb_audit.specs.private.{shown_in}
use Rattle.fdb_audit.specs.Tallied.{HasTextsIn}
use Rattle.fdb_audit.proofs.AddingTexts.{IsAdding}
use Rattle.fdb_audit.proofs.told_faults.add_texts.Given as goal

-- it is counted by those so far
abbrev pub invariant-loop-member : goal.invariant-loop-member
invariant-loop-member l =
    (members : List (List ℕ)) (told : List ToldFault) → HasTextsIn members told l.initial.texts
    → IsAdding members told (told_at (shown_in l.printer).lines (shown_in l.printer).names (shown_in l.printer).beside l.found) l.member l.texts
