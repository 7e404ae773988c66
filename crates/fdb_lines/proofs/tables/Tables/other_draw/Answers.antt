use Rattle.std.proofs.Common.{[]}
use Rattle.fdb_lines.specs.declared.locators.LineKind.TheVariants.{Draws}
use Rattle.fdb_lines.proofs.Entries.{other_behind}
use Rattle.fdb_lines.proofs.Reasoning.{are_of_subject}
use Rattle.fdb_lines.proofs.tables.Tables.other_draw.Goals as goal

pub returns-then-first-place : goal.returns-then-first-place
returns-then-first-place c =
    let are = are_of_subject c.self.view_is c.self.invariant in
    let same = c.if-first-place.true in
    other_behind _ c.args.place _ c.first.result (rw same at c.in_ok-first.ensures)
    (rw (same, c.version_in-version.ensures, c.lines.ensures) at (c.first.ensures Draws 0 _ [] are.draws))
