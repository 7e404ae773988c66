use Rattle.fdb_log_reader.proofs.ReadByKey.{known_of_text}
use Rattle.fdb_log_reader.proofs.laws.what_is_read_by_key_is_numbered_by_names.Goals as goal

pub returns : goal.returns
returns c = known_of_text
