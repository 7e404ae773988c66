use Rattle.std.proofs.Common.{[]}
use Rattle.fdb_lines.specs.declared.locators.LineKind.TheVariants.{Draws}
use Rattle.fdb_lines.proofs.Reasoning.{are_of_subject}
use Rattle.fdb_lines.proofs.tables.Tables.first_draw.Goals as goal

pub returns : goal.returns
returns c =
    let are = are_of_subject c.self.view_is c.self.invariant in
    rw (c.version_in.ensures, c.lines.ensures) at (c.first.ensures Draws 0 _ [] are.draws)
