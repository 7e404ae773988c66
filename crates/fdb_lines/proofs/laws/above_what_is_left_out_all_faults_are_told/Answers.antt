use Rattle.fdb_lines.proofs.Above.{as_in_whole}
use Rattle.fdb_lines.proofs.laws.above_what_is_left_out_all_faults_are_told.Goals as goal

pub returns : goal.returns
returns c = λ opts at lines places i stand li left fault. as_in_whole lines places stand.within stand.rising opts i li left fault
