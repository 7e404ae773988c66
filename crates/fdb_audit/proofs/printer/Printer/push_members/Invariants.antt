use Rattle.std.proofs.Common.{◌≡◌, ◌++◌, drop, map, string_bytes}
use Rattle.fdb_audit.specs.Text.{members_text}
use Rattle.fdb_audit.specs.private.{beside_of}
use Rattle.fdb_audit.proofs.printer.Printer.push_members.Given as goal

-- what is written, and what is left, are all members
abbrev pub invariant-loop-member : goal.invariant-loop-member
invariant-loop-member l =
    string_bytes l.out ++ members_text (map beside_of (drop l.member-index l.self.beside.now)) l.place
    ≡ string_bytes l.fn.out ++ members_text (map beside_of l.self.beside.now) l.place
