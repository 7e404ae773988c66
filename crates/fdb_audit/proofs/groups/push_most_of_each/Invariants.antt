use Rattle.std.proofs.Common.{◌≡◌, ◌++◌, List, ℕ, drop, map, string_bytes}
use Rattle.fdb_audit.specs.Groups.{by_member, groupings, AreMostOfEach}
use Rattle.fdb_audit.specs.private.{beside_of, shown_in}
use Rattle.fdb_audit.proofs.groups.push_most_of_each.Given as goal

-- what is written goes on, by the groups of what is left, to those of all
abbrev pub invariant-loop-member : goal.invariant-loop-member
invariant-loop-member l =
    (rest : List ℕ) → AreMostOfEach l.json (map by_member (map beside_of (drop l.member-index l.printer.beside.now))) l.found rest
    → (text : List ℕ) × AreMostOfEach l.json (groupings (shown_in l.printer)) l.found text × (string_bytes l.out ++ rest ≡ string_bytes l.fn.out ++ text)
