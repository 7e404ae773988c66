use Rattle.std.proofs.Common.{◌≡◌, ◌++◌, drop, string_bytes}
use Rattle.fdb_script.specs.Text.{history_lines}
use Rattle.fdb_script.proofs.printing.push_history.Given as goal

-- what is written, and the lines of what is left, are all lines
abbrev pub invariant-loop-number : goal.invariant-loop-number
invariant-loop-number l = string_bytes l.printed ++ history_lines l.number (drop l.number l.events) ≡ string_bytes l.fn.printed ++ history_lines 0 l.events
