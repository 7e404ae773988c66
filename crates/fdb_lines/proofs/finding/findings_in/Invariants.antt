use Rattle.std.proofs.Common.{◌≡◌, map}
use Rattle.std.specs.List.{All}
use Rattle.fdb_lines.specs.Late.{HasLate}
use Rattle.fdb_lines.specs.Listing.{faults_below}
use Rattle.fdb_lines.specs.Log.{lines_of}
use Rattle.fdb_lines.specs.Reasons.{found_of, HasReason}
use Rattle.fdb_lines.specs.private.Tables.{case_in}
use Rattle.fdb_lines.proofs.finding.findings_in.Given as goal

abbrev pub invariant-loop-place : goal.invariant-loop-place
invariant-loop-place l = record {
  listed : map found_of l.findings.items ≡ faults_below (case_in l.tables) l.place;
  reasons : All (HasReason (lines_of l.tables.log) l.tables.opts) l.findings.items;
  late : All (HasLate (lines_of l.tables.log) l.tables.opts) l.findings.items;
}
