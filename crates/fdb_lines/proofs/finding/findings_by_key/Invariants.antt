use Rattle.fdb_lines.specs.Log.{lines_of}
use Rattle.fdb_lines.proofs.Gathered.{AreGathered}
use Rattle.fdb_lines.proofs.finding.findings_by_key.Given as goal

abbrev pub invariant-loop-part : goal.invariant-loop-part
invariant-loop-part l = AreGathered (lines_of l.log) l.opts l.keys l.part l.found.items
