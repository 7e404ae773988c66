use Rattle.fdb_log_reader.proofs.Apart.{goes_apart}
use Rattle.fdb_log_reader.proofs.laws.what_follows_an_ended_line_is_apart.Goals as goal

pub returns : goal.returns
returns c = goes_apart
