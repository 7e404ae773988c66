use Rattle.fdb_lines.proofs.Above.{not_above_true, order_true, twice_true}
use Rattle.fdb_lines.proofs.laws.nothing_is_told_by_them_alone.Goals as goal

pub returns : goal.returns
returns c = record {
  order = λ opts at lines places i stand li. order_true lines places stand.within stand.rising opts i li;
  not_above = λ opts at lines places i stand li. not_above_true lines places stand.within stand.rising opts i li;
  twice = λ opts at lines places i stand li. twice_true lines places stand.within stand.rising opts i li;
}
