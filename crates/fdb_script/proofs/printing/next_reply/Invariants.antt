use Rattle.std.proofs.Common.{◌≡◌, length}
use Rattle.fdb_script.specs.Text.{replies_of}
use Rattle.fdb_script.proofs.printing.next_reply.Given as goal

-- what was passed over answers no command
abbrev pub invariant-loop-call : goal.invariant-loop-call
invariant-loop-call l = replies_of l.left ≡ replies_of l.calls

abbrev pub decreases-loop-call : goal.decreases-loop-call
decreases-loop-call l = length l.left
