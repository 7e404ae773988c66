use Rattle.std.proofs.Common.{inl}
use Rattle.fdb_lines.specs.declared.known.Exposure.TheVariants.{Drawn}
use Rattle.fdb_lines.specs.Log.{lines_of}
use Rattle.fdb_lines.proofs.Reasoning.{are_of_subject}
use Rattle.fdb_lines.proofs.tables.Tables.first_drawn.Goals as goal

pub returns-in-Some : goal.returns-in-Some
returns-in-Some c =
    let are = are_of_subject c.self.view_is c.self.invariant in
    inl (c.first_that.ensures Drawn (lines_of c.args.self.now.log).lines (rw c.in-Some.is at are.drawn).1)
