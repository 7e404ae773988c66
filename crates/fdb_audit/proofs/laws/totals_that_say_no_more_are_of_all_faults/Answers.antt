use Rattle.fdb_audit.proofs.Totalled.{all_by_text}
use Rattle.fdb_audit.proofs.laws.totals_that_say_no_more_are_of_all_faults.Goals as goal

pub returns : goal.returns
returns c = λ its told none. all_by_text its told none
