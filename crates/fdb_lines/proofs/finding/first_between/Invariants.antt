use Rattle.std.proofs.Common.{◌≡◌, []}
use Rattle.fdb_lines.specs.Listing.{faults_below}
use Rattle.fdb_lines.specs.private.Tables.{case_in}
use Rattle.fdb_lines.proofs.finding.first_between.Given as goal

abbrev pub invariant-loop-place : goal.invariant-loop-place
invariant-loop-place l = record {
  below : faults_below (case_in l.tables) l.place ≡ faults_below (case_in l.tables) l.from;
  none : l.findings.items ≡ [];
}
