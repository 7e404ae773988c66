use Rattle.fdb_lines.specs.Log.{lines_of}
use Rattle.fdb_lines.proofs.Reasoning.{are_of_subject, knows_is}
use Rattle.fdb_lines.proofs.tables.Tables.knows.Goals as goal

pub returns : goal.returns
returns c =
    let are = are_of_subject c.self.view_is c.self.invariant in
    rw (c.knows_at.ensures, c.start.ensures, c.opts.ensures, c.lines.ensures, c.deref.ensures.value)
    (knows_is (lines_of c.args.self.now.log) c.args.self.now.opts c.self.inside.made.now.shown.items c.args.place are.shown c.requires.place)
