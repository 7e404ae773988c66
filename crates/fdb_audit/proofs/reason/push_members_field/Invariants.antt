use Rattle.std.proofs.Common.{◌≡◌, ◌++◌, codes, drop, map, string_bytes}
use Rattle.std.specs.List.{flat_map}
use Rattle.fdb_audit.specs.Objects.{member_field, members_field}
use Rattle.fdb_audit.specs.private.{beside_of}
use Rattle.fdb_audit.proofs.reason.push_members_field.Given as goal

-- what is written, and what is left, are all members
abbrev pub invariant-loop-member : goal.invariant-loop-member
invariant-loop-member l =
    string_bytes l.out ++ flat_map (λ other. codes "," ++ member_field other l.place) (map beside_of (drop l.member-index l.more)) ++ codes "}"
    ≡ string_bytes l.fn.out ++ members_field (map beside_of l.beside) l.place
