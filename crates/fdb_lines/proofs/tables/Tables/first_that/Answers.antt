use Rattle.fdb_lines.specs.declared.known.Exposure.TheVariants.{Shown}
use Rattle.fdb_lines.specs.Log.{lines_of}
use Rattle.fdb_lines.proofs.Lateness.{not_above_first}
use Rattle.fdb_lines.proofs.Reasoning.{are_of_subject}
use Rattle.fdb_lines.proofs.tables.Tables.first_that.Goals as goal

pub returns-in-Order : goal.returns-in-Order
returns-in-Order c =
    let are = are_of_subject c.self.view_is c.self.invariant in
    let is = c.in-Order.is in
    rw is (rw (is, c.version_in-version.ensures, c.lines.ensures) at (c.first_that.ensures Shown (lines_of c.args.self.now.log).lines are.firsts))

pub returns-in-NotAbove : goal.returns-in-NotAbove
returns-in-NotAbove c =
    let are = are_of_subject c.self.view_is c.self.invariant in
    let lines = (lines_of c.args.self.now.log).lines in
    let is = c.in-NotAbove.is in
    let version = c.version_in-version.ensures in
    rw (is, c.sooner.ensures)
    (not_above_first lines c.args.place c.first_that-shown.result c.first_drawn.result
    (rw (is, version, c.lines.ensures) at (c.first_that-shown.ensures Shown lines are.firsts)) (rw (version, c.lines.ensures) at c.first_drawn.ensures))
