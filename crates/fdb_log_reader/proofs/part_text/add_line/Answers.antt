use Rattle.fdb_log_reader.proofs.Placed.{one_come}
use Rattle.fdb_log_reader.proofs.part_text.add_line.Goals as goal

pub returns-clause-come : goal.returns-clause-come
returns-clause-come c =
    one_come c.args.parts.now.items c.args.part c.args.split_line c.args.line.now c.index_mut-its.result.now c.add.new.self c.requires.there c.index_mut-its.ensures.value
    c.in_ok-add.ensures.text c.in_ok-add.ensures.lines
