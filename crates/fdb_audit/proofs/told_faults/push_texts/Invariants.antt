use Rattle.std.proofs.Common.{◌≡◌, ◌++◌, ℕ, List, drop, string_bytes}
use Rattle.fdb_audit.specs.ToldFaults.{AreMostByText, ToldFault}
use Rattle.fdb_audit.specs.Tallied.{HasTextsIn}
use Rattle.fdb_audit.proofs.told_faults.push_texts.Given as goal

-- what is written goes on, by the groups of what is left, to those of all
abbrev pub invariant-loop-groups : goal.invariant-loop-groups
invariant-loop-groups l =
    (members : List (List ℕ)) (told : List ToldFault) → HasTextsIn members told l.texts
    → (rest : List ℕ) → AreMostByText l.json told l.groups-index (drop l.groups-index members) rest
    → (totals : List ℕ) × AreMostByText l.json told 0 members totals × (string_bytes l.out ++ rest ≡ string_bytes l.fn.out ++ totals)
