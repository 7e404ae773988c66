use Rattle.std.proofs.Common.{◌≡◌, ◌++◌, codes, drop, string_bytes}
use Rattle.std.specs.List.{flat_map}
use Rattle.fdb_audit.specs.Objects.{member_names}
use Rattle.fdb_audit.specs.private.{members_of}
use Rattle.fdb_audit.proofs.figures.push_names.Given as goal

-- what is written, and what is left, are all names
abbrev pub invariant-loop-member : goal.invariant-loop-member
invariant-loop-member l =
    string_bytes l.out ++ flat_map (λ other. codes "," ++ other) (members_of (drop l.member-index l.more))
    ≡ string_bytes l.fn.out ++ member_names (members_of l.beside)
