use Rattle.std.proofs.Common.{◌≡◌, ◌++◌, ◌==◌, drop, count_by, string_bytes}
use Rattle.fdb_script.specs.Text.{client_lines, replies_of}
use Rattle.fdb_script.proofs.printing.push_client.Given as goal

-- what is written, and the lines of what is left, are all lines; and what is left comes to the same in the end
abbrev pub invariant-loop-number : goal.invariant-loop-number
invariant-loop-number l =
    (string_bytes l.printed ++ client_lines l.round l.client l.number (drop l.number l.commands) (replies_of l.left) ≡ string_bytes l.fn.printed ++ client_lines l.round l.client 0 l.commands (replies_of l.calls))
    × (drop (count_by (λ command. command.client == l.client) (drop l.number l.commands)) (replies_of l.left) ≡ drop (count_by (λ command. command.client == l.client) l.commands) (replies_of l.calls))
