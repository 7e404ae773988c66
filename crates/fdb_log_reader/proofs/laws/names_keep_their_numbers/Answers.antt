use Rattle.fdb_log_reader.proofs.SingleLines.{more_behind}
use Rattle.fdb_log_reader.proofs.laws.names_keep_their_numbers.Goals as goal

pub returns : goal.returns
returns c = more_behind
