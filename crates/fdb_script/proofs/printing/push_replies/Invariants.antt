use Rattle.std.proofs.Common.{◌≡◌, ◌++◌, drop, map, string_bytes}
use Rattle.fdb_script.specs.Text.{replies_of, reply_lines}
use Rattle.fdb_script.proofs.printing.push_replies.Given as goal

-- what is written, and the lines of what is left, are all lines
abbrev pub invariant-loop-round : goal.invariant-loop-round
invariant-loop-round l =
    string_bytes l.printed ++ reply_lines l.round (drop l.round l.rounds) (map (λ calls. replies_of calls.now) l.left)
    ≡ string_bytes l.fn.printed ++ reply_lines 0 l.rounds (map (λ calls. replies_of calls.now) l.fn.left)
