use Rattle.fdb_history.proofs.chains.Answering.{justified_answer}
use Rattle.fdb_history.proofs.laws.answers_are_justified.Goals as goal

pub returns : goal.returns
returns c given ask calls chain asked position known in_range fresh one begins =
    justified_answer given ask chain known in_range one calls asked position fresh begins
