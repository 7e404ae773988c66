use Rattle.fdb_log_reader.proofs.Braces.{nowhere, split_at}
use Rattle.fdb_log_reader.proofs.part_text.split_brace.Goals as goal

pub returns-in-Some : goal.returns-in-Some
returns-in-Some c =
    let last = c.in-Some.ensures in
    split_at c.args.line.now c.in-Some.brace last.0.high last.1 last.0.after

pub returns-in-None : goal.returns-in-None
returns-in-None c = nowhere c.args.line.now c.in-None.ensures
