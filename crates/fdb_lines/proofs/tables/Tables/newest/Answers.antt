use Rattle.std.proofs.Common.{max, ap, arith}
use Rattle.fdb_lines.specs.declared.known.Exposure.TheVariants.{Drawn}
use Rattle.fdb_lines.specs.Audit.{case_of}
use Rattle.fdb_lines.specs.Faults.{knows}
use Rattle.fdb_lines.specs.Log.{lines_of}
use Rattle.fdb_lines.proofs.Reasoning.{are_of_subject, newest_is, none_beyond}
use Rattle.fdb_lines.proofs.tables.Tables.newest.Goals as goal

pub returns-in-Some : goal.returns-in-Some
returns-in-Some c =
    let log = lines_of c.args.self.now.log in
    let opts = c.args.self.now.opts in
    let k = c.args.place in
    let are = (rw c.in-Some.is at (are_of_subject c.self.view_is c.self.invariant).drawn).0 in
    rw (c.max.ensures, c.knows-knows.ensures, c.version_by.ensures, c.by_at.ensures, c.lines.ensures, c.deref.ensures.value)
    (ap (max (knows (case_of log opts) k)) (newest_is log opts Drawn c.in-Some.drawn.known.items k are c.requires.place))

pub returns-in-None : goal.returns-in-None
returns-in-None c =
    let are = are_of_subject c.self.view_is c.self.invariant in
    let log = lines_of c.args.self.now.log in
    let least = none_beyond log c.args.self.now.opts c.args.place (rw c.in-None.is at are.drawn) in
    let knows = c.knows-knows.ensures in
    omega arith
