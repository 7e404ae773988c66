use Rattle.fdb_log_reader.proofs.SingleLines.{space_more}
use Rattle.fdb_log_reader.proofs.laws.a_space_more_is_of_one_line.Goals as goal

pub returns : goal.returns
returns c = space_more
