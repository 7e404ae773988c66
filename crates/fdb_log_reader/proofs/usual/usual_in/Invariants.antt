use Rattle.std.proofs.Common.{length, option_map}
use Rattle.fdb_log_reader.specs.private.Usual.{Reads}
use Rattle.fdb_log_reader.proofs.usual.usual_in.Given as goal

abbrev pub invariant-members : goal.invariant-members
invariant-members l = Reads l.fn.bytes (option_map (λ kept. kept.now) l.fn.further) l.rest l.line

abbrev pub decreases-members : goal.decreases-members
decreases-members l = length l.rest
