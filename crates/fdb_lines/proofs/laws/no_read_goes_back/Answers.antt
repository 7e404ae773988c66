use Rattle.std.proofs.Common.{arith}
use Rattle.fdb_lines.proofs.Facts.{shown_known, no_order}
use Rattle.fdb_lines.proofs.laws.no_read_goes_back.Goals as goal

pub returns : goal.returns
returns c = record {
  after_what_was_shown = λ d j k none lj lk before shows read. omega (arith, shown_known d j k lj before shows, no_order d none k lk read);
  after_the_start = λ d k none lk read. omega (arith, no_order d none k lk read);
}
