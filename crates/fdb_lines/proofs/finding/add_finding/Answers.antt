use Rattle.std.proofs.lemmas.List.{map-append}
use Rattle.std.proofs.lemmas.List.Elements.{All-push}
use Rattle.fdb_lines.specs.Late.{HasLate}
use Rattle.fdb_lines.specs.Reasons.{HasReason}
use Rattle.fdb_lines.specs.Log.{lines_of}
use Rattle.fdb_lines.proofs.finding.add_finding.Goals as goal

pub returns-in_ok-push : goal.returns-in_ok-push
returns-in_ok-push c =
    let items = c.in_ok-push.ensures.items in
    let is = c.in-Some.ensures in (
      rw (items, map-append, is.0),
      λ old. rw items (All-push (HasReason (lines_of c.args.tables.now.log) c.args.tables.now.opts) c.args.findings.now.items _ old is.1),
      λ old. rw items (All-push (HasLate (lines_of c.args.tables.now.log) c.args.tables.now.opts) c.args.findings.now.items _ old c.late_of-late.ensures),
    )
