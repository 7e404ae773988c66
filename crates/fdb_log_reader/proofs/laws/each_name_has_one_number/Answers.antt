use Rattle.fdb_log_reader.proofs.Behind.{once_behind}
use Rattle.fdb_log_reader.proofs.laws.each_name_has_one_number.Goals as goal

pub returns : goal.returns
returns c = once_behind
