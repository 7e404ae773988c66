use Rattle.std.proofs.Common.{rules}
use Rattle.fdb_command.proofs.intake.Taker.take_input.Goals as goal

pub returns-in-None : goal.returns-in-None
returns-in-None g c = search rules
