use Rattle.std.proofs.Common.{◌≡◌, ◌++◌, ℕ, List, length}
use Rattle.fdb_log_reader.specs.Reader.{reads_on}
use Rattle.fdb_log_reader.proofs.reader.LogReader.feed.Given as goal

abbrev pub invariant-loop-line : goal.invariant-loop-line
invariant-loop-line l = (text : List ℕ) → reads_on l.fn.self (l.fn.bytes ++ text) ≡ reads_on l.self (l.rest ++ text)

abbrev pub decreases-loop-line : goal.decreases-loop-line
decreases-loop-line l = length l.rest
