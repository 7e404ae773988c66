use Rattle.fdb_lines.proofs.GoneOn.{told_later, told_once}
use Rattle.fdb_lines.proofs.laws.who_goes_on_from_them_tells_the_rest.Goals as goal

pub returns : goal.returns
returns c = record {
  rest = told_later;
  all = told_once;
}
