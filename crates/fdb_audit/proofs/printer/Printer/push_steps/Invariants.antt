use Rattle.std.proofs.Common.{◌≡◌, ◌++◌, drop, string_bytes}
use Rattle.fdb_audit.specs.Judged.{steps_text}
use Rattle.fdb_audit.specs.private.{shown_in}
use Rattle.fdb_audit.proofs.printer.Printer.push_steps.Given as goal

-- what is written, and the lines of what is left, are all lines
abbrev pub invariant-loop-number : goal.invariant-loop-number
invariant-loop-number l =
    string_bytes l.out ++ steps_text l.json (shown_in l.self) l.key l.number (drop l.number l.steps)
    ≡ string_bytes l.fn.out ++ steps_text l.json (shown_in l.self) l.key 0 l.steps
