use Rattle.fdb_lines.specs.Log.{lines_of}
use Rattle.fdb_lines.proofs.Reasoning.{wrong_is}
use Rattle.fdb_lines.proofs.fault.of_wrong.Goals as goal

pub returns-in-Some : goal.returns-in-Some
returns-in-Some c =
    wrong_is (lines_of c.args.tables.now.log) c.args.tables.now.opts c.args.place c.in-Some.reporter c.knows-version.result c.shown-by.result c.requires.stands
    c.in-Some.ensures c.knows-version.ensures c.shown-by.ensures
