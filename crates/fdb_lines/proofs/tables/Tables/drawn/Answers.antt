use Rattle.fdb_lines.specs.declared.known.Exposure.TheVariants.{Drawn}
use Rattle.fdb_lines.specs.Log.{lines_of}
use Rattle.fdb_lines.proofs.Reasoning.{are_of_subject, known_is, unseen_undrawn}
use Rattle.fdb_lines.proofs.tables.Tables.drawn.Goals as goal

pub returns-in-Some : goal.returns-in-Some
returns-in-Some c =
    let are = (rw c.in-Some.is at (are_of_subject c.self.view_is c.self.invariant).drawn).0 in
    rw (c.of_version.ensures, c.by_at.ensures, c.lines.ensures, c.deref.ensures.value)
    (known_is (lines_of c.args.self.now.log) c.args.self.now.opts Drawn c.in-Some.drawn.known.items c.args.place c.args.version are c.requires.place c.requires.newest)

pub returns-in-None : goal.returns-in-None
returns-in-None c =
    let are = are_of_subject c.self.view_is c.self.invariant in
    unseen_undrawn (lines_of c.args.self.now.log) c.args.self.now.opts c.args.place c.args.version (rw c.in-None.is at are.drawn) c.requires.unseen
