use Rattle.fdb_history.proofs.chains.AnswerLaws.{IsChain-step, IsChain-from_nothing, asks-keep, asks-stay}
use Rattle.fdb_history.proofs.laws.asks_make_a_chain.Goals as goal

pub returns-clause-step : goal.returns-clause-step
returns-clause-step c = IsChain-step

pub returns-clause-all : goal.returns-clause-all
returns-clause-all c = IsChain-from_nothing

pub returns-clause-keeps : goal.returns-clause-keeps
returns-clause-keeps c = asks-keep

pub returns-clause-stays : goal.returns-clause-stays
returns-clause-stays c = asks-stay
