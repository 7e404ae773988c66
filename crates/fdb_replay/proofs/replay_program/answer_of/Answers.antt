use Rattle.fdb_replay.proofs.replay_program.answer_of.Goals as goal

pub returns-in-Err : goal.returns-in-Err
returns-in-Err g c = λ arguments. c.fault_of.ensures.stops arguments c.args.script.now c.in-Err.ensures.err c.in-Err.ensures.unwritten
