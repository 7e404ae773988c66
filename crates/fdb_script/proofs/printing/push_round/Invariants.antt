use Rattle.std.proofs.Common.{◌≡◌, ◌++◌, drop, map, take, string_bytes}
use Rattle.fdb_script.specs.Text.{calls_after, replies_of, round_lines}
use Rattle.fdb_script.proofs.printing.push_round.Given as goal

-- what is written, and the lines of what is left, are all lines; and so are the calls of the clients so far and those of the others
abbrev pub invariant-loop-client : goal.invariant-loop-client
invariant-loop-client l =
    (string_bytes l.printed ++ round_lines l.round l.client l.commands (drop l.client (map (λ calls. replies_of calls.now) l.left))
    ≡ string_bytes l.fn.printed ++ round_lines l.round 0 l.commands (map (λ calls. replies_of calls.now) l.fn.left))
    × (take l.client (map (λ calls. replies_of calls.now) l.left) ++ calls_after l.client l.commands (drop l.client (map (λ calls. replies_of calls.now) l.left))
    ≡ calls_after 0 l.commands (map (λ calls. replies_of calls.now) l.fn.left))
