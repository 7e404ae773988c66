use Rattle.fdb_lines.proofs.Named.{same_by_names}
use Rattle.fdb_lines.proofs.laws.logs_that_say_the_same_differ_in_numbers_alone.Goals as goal

pub returns : goal.returns
returns c = same_by_names
