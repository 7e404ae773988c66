use Rattle.std.proofs.Common.{None, Some, sym, ◌∙◌}
use Rattle.std.proofs.lemmas.List.{get_or_default}
use Rattle.fdb_lines.specs.private.EndTable.{no_end}
use Rattle.fdb_lines.specs.private.Known.{moment}
use Rattle.fdb_lines.proofs.Entries.{newest_line}
use Rattle.fdb_lines.proofs.end_table.EndTable.newest_before.Goals as goal

pub returns-in_err-newest : goal.returns-in_err-newest
returns-in_err-newest c = λ by_client seen lines are.
    rw c.from_residual.ensures (newest_line _ _ _ _ _ _ _ no_end are (moment c.args.group c.args.time c.args.place) None c.in_err-newest.ensures)

pub returns : goal.returns
returns c = λ by_client seen lines are.
    let found = c.in_ok-newest.ensures in
    rw (c.index.ensures ∙ sym (get_or_default c.args.self.now.ends.items c.in_ok-newest.newest no_end c.index.result.now found.0))
    (newest_line _ _ _ _ _ _ _ no_end are (moment c.args.group c.args.time c.args.place) (Some c.in_ok-newest.newest) found)
