use Rattle.std.proofs.Common.{◌≡◌, ℕ, None, get_or}
use Rattle.fdb_lines.proofs.log.PartNumbers.new.Given as goal

abbrev pub invariant-loop-number : goal.invariant-loop-number
invariant-loop-number l = (q : ℕ) → get_or l.near.items q None ≡ None
