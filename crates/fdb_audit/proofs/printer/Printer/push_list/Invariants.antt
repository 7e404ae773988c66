use Rattle.std.proofs.Common.{◌≡◌, ◌++◌, drop, string_bytes}
use Rattle.fdb_audit.specs.Judged.{list_text}
use Rattle.fdb_audit.specs.private.{shown_in}
use Rattle.fdb_audit.proofs.printer.Printer.push_list.Given as goal

-- what is written, and the lines of what is left, are all lines
abbrev pub invariant-loop-finding : goal.invariant-loop-finding
invariant-loop-finding l =
    string_bytes l.out ++ list_text l.json (shown_in l.self) (drop l.finding-index l.found)
    ≡ string_bytes l.fn.out ++ list_text l.json (shown_in l.self) l.found
