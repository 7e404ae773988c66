use Rattle.std.proofs.Common.{◌≡◌, ◌++◌, List, drop, string_bytes}
use Rattle.fdb_audit.specs.Groups.{group_lines, Owned}
use Rattle.fdb_audit.specs.private.{grouping_of, owners_in}
use Rattle.fdb_audit.specs.Tallied.{HasTallied}
use Rattle.fdb_audit.proofs.groups.By.push_groups.Given as goal

-- what is written, and the lines of what is left, are all lines
abbrev pub invariant-loop-group : goal.invariant-loop-group
invariant-loop-group l =
    (owned : List Owned) → HasTallied l.tally owned
    → string_bytes l.out ++ group_lines l.json l.more (grouping_of l.self).name owned (owners_in (drop l.group-index l.groups))
    ≡ string_bytes l.fn.out ++ group_lines l.json l.more (grouping_of l.self).name owned (owners_in l.groups)
