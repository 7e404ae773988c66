use Rattle.fdb_history.proofs.chains.Answering.{kept_own, latest_own}
use Rattle.fdb_history.proofs.laws.own_answers_decide.Goals as goal

pub returns-clause-latest : goal.returns-clause-latest
returns-clause-latest c = latest_own

pub returns-clause-kept : goal.returns-clause-kept
returns-clause-kept c = kept_own
