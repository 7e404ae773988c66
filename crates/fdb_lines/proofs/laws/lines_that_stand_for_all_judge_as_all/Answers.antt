use Rattle.std.proofs.Common.{refl}
use Rattle.fdb_lines.proofs.Carried.{stand_for_all}
use Rattle.fdb_lines.proofs.laws.lines_that_stand_for_all_judge_as_all.Goals as goal

pub returns : goal.returns
returns c = record {
  order = λ opts at lines places i stand li from. (stand_for_all opts.margin at lines places i opts refl stand li from).0;
  not_above = λ opts at lines places i stand li from. (stand_for_all opts.margin at lines places i opts refl stand li from).1;
}
