use Rattle.fdb_log_reader.proofs.SingleLines.{numbered_behind}
use Rattle.fdb_log_reader.proofs.laws.numbers_are_those_of_names.Goals as goal

pub returns : goal.returns
returns c = numbered_behind
