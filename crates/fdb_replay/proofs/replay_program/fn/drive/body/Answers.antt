use Rattle.fdb_replay.proofs.replay_program.fn.drive.body.Goals as goal

pub returns : goal.returns
returns g c = λ arguments. rw c.deref.ensures.value at (c.answer_of.ensures arguments)
