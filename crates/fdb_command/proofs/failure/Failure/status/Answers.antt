use Rattle.std.proofs.Common.{rules}
use Rattle.fdb_command.proofs.failure.Failure.status.Goals as goal

pub returns-in-Refused : goal.returns-in-Refused
returns-in-Refused g c = search rules

pub returns-in-Arguments : goal.returns-in-Arguments
returns-in-Arguments g c = search rules

pub returns-in-Memory : goal.returns-in-Memory
returns-in-Memory g c = search rules

pub returns-in-Found : goal.returns-in-Found
returns-in-Found g c = search rules

pub returns-in-Reading : goal.returns-in-Reading
returns-in-Reading g c = search rules

pub returns-in-Reading-2 : goal.returns-in-Reading-2
returns-in-Reading-2 g c = search rules
