use Rattle.fdb_history.proofs.chains.AnswerLaws.{kept-first, kept-is, repeated-kept}
use Rattle.fdb_history.proofs.chains.Answering.{kept_stands}
use Rattle.fdb_history.proofs.laws.kept_is_first.Goals as goal

pub returns-clause-first : goal.returns-clause-first
returns-clause-first c = kept-first

pub returns-clause-of_the_request : goal.returns-clause-of_the_request
returns-clause-of_the_request c = kept-is

pub returns-clause-repeated : goal.returns-clause-repeated
returns-clause-repeated c = repeated-kept

pub returns-clause-stands : goal.returns-clause-stands
returns-clause-stands c = kept_stands
