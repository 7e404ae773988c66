use Rattle.std.proofs.Common.{vec_len}
use Rattle.fdb_lines.proofs.PutOn.{PutSoFar}
use Rattle.fdb_lines.proofs.key_parts.put_parts.Given as goal

abbrev pub invariant-loop-next : goal.invariant-loop-next
invariant-loop-next l = PutSoFar l.places l.initial.parts.items l.initial.next_parts.items l.initial.told.items l.next_parts.items l.parts.items l.told.items

abbrev pub decreases-loop-next : goal.decreases-loop-next
decreases-loop-next l = vec_len l.next_parts
