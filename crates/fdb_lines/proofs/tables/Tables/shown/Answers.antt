use Rattle.std.proofs.Common.{arith}
use Rattle.fdb_lines.specs.declared.known.Exposure.TheVariants.{Shown}
use Rattle.fdb_lines.specs.Log.{lines_of}
use Rattle.fdb_lines.proofs.Reasoning.{are_of_subject, known_is}
use Rattle.fdb_lines.proofs.tables.Tables.shown.Goals as goal

pub returns : goal.returns
returns c =
    let are = are_of_subject c.self.view_is c.self.invariant in
    rw (c.of_version.ensures, c.by_at.ensures, c.lines.ensures, c.deref.ensures.value)
    (known_is (lines_of c.args.self.now.log) c.args.self.now.opts Shown _ c.args.place c.args.version are.shown c.requires.place (let least = c.requires.newest in omega arith))
