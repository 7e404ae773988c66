use Rattle.fdb_log_reader.proofs.Alike.{lines_alike}
use Rattle.fdb_log_reader.proofs.laws.what_lines_say_is_theirs_alone.Goals as goal

pub returns : goal.returns
returns c = lines_alike
