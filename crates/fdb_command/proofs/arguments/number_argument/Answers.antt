use Rattle.std.proofs.Common.{rules}
use Rattle.fdb_command.proofs.arguments.number_argument.Goals as goal

pub returns : goal.returns
returns c = search rules
