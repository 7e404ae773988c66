use Rattle.std.proofs.Common.{refl}
use Rattle.fdb_replay.specs.Program.{command}
use Rattle.fdb_replay.proofs.replay_program.wants_history.Goals as goal

pub returns : goal.returns
returns c = λ arguments matches. c.is_given.ensures command arguments matches (refl, refl, refl)
