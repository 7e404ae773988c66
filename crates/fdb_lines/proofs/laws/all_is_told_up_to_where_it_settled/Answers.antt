use Rattle.fdb_lines.proofs.OnceTold.{told_is, told_so}
use Rattle.fdb_lines.proofs.laws.all_is_told_up_to_where_it_settled.Goals as goal

pub returns : goal.returns
returns c = record {
  each_once = told_is;
  as_well = told_so;
}
