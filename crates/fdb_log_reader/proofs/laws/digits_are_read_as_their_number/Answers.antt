use Rattle.fdb_log_reader.proofs.ShownNumbers.{digits_read}
use Rattle.fdb_log_reader.proofs.laws.digits_are_read_as_their_number.Goals as goal

pub returns : goal.returns
returns c = digits_read
