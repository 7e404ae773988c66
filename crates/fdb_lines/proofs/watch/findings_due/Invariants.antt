use Rattle.std.proofs.Common.{◌≡◌, map}
use Rattle.std.specs.List.{All}
use Rattle.fdb_lines.specs.Audit.{case_of}
use Rattle.fdb_lines.specs.Late.{HasLate}
use Rattle.fdb_lines.specs.Log.{lines_of}
use Rattle.fdb_lines.specs.Reasons.{found_of, HasReason}
use Rattle.fdb_lines.specs.private.Due.{due_at, is_due_by, told_below}
use Rattle.fdb_lines.proofs.watch.findings_due.Given as goal

abbrev pub invariant-loop-place : goal.invariant-loop-place
invariant-loop-place l = record {
  told : map found_of l.found.items ≡ told_below (due_at (is_due_by l.due) l.numbers (lines_of l.log).lines) (case_of (lines_of l.log) l.opts) l.place;
  reasons : All (HasReason (lines_of l.log) l.opts) l.found.items;
  late : All (HasLate (lines_of l.log) l.opts) l.found.items;
}
