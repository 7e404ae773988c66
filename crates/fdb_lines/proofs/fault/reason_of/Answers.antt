use Rattle.fdb_lines.specs.Log.{lines_of}
use Rattle.fdb_lines.proofs.Reasoning.{stray_is, twice_is}
use Rattle.fdb_lines.proofs.fault.reason_of.Goals as goal

pub returns-in-Twice : goal.returns-in-Twice
returns-in-Twice c =
    let is = c.in-Twice.is in
    rw (is, c.drawn_by.ensures)
    (twice_is (lines_of c.args.tables.now.log) c.args.tables.now.opts c.args.place c.drawn_again.result (rw is at c.if-not-stands.ensures) c.drawn_again.ensures)

pub returns-in-Stray : goal.returns-in-Stray
returns-in-Stray c =
    let is = c.in-Stray.is in
    rw (is, c.drawn_by-in-Stray.ensures)
    (stray_is (lines_of c.args.tables.now.log) c.args.tables.now.opts c.args.place c.first_draw.result (rw is at c.if-not-stands.ensures) c.first_draw.ensures)
