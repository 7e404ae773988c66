use Rattle.fdb_lines.proofs.Carried.{and_one_more, later, of_a_part}
use Rattle.fdb_lines.proofs.laws.they_go_on_to_stand_for_all.Goals as goal

pub returns : goal.returns
returns c = record {
  later = later;
  one_more = λ margin at lines places line stand. and_one_more margin at lines places stand line;
  fewer = λ margin at lines places kept stand keep. of_a_part margin at lines places stand kept keep;
}
