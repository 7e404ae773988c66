use Rattle.std.proofs.Common.{◌≡◌, ◌++◌, map}
use Rattle.fdb_log_reader.specs.ReadLine.{said_in}
use Rattle.fdb_audit.specs.private.Followed.{StaysBeside, TakesOn}
use Rattle.fdb_audit.proofs.taken_lines.Taking.take_all.Given as goal

abbrev pub invariant-loop-line : goal.invariant-loop-line
invariant-loop-line l = record {
  left : l.yielded ++ l.line-iterator.rest.items ≡ l.fn.lines.items;
  takes : TakesOn l.fn.self l.self (map said_in l.yielded);
  beside : StaysBeside l.fn.self l.self;
}
