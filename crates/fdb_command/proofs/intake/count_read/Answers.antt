use Rattle.std.proofs.Common.{rules}
use Rattle.fdb_command.proofs.intake.count_read.Goals as goal

pub returns-in-Ok : goal.returns-in-Ok
returns-in-Ok c = search rules

pub returns-in-Err : goal.returns-in-Err
returns-in-Err c = search rules

pub returns-in-Err-2 : goal.returns-in-Err-2
returns-in-Err-2 c = search rules
