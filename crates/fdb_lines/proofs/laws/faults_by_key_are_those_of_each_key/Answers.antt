use Rattle.fdb_lines.proofs.Kept.{kept_of_key}
use Rattle.fdb_lines.proofs.laws.faults_by_key_are_those_of_each_key.Goals as goal

pub returns : goal.returns
returns c = kept_of_key
