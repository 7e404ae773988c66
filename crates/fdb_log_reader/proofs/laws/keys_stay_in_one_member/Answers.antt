use Rattle.fdb_log_reader.proofs.SingleLines.{member_behind}
use Rattle.fdb_log_reader.proofs.laws.keys_stay_in_one_member.Goals as goal

pub returns : goal.returns
returns c = member_behind
