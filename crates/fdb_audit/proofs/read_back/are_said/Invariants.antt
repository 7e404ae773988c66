use Rattle.std.proofs.Common.{◌≡◌, length}
use Rattle.fdb_log_reader.specs.LineReader.{line_names}
use Rattle.fdb_audit.proofs.NamedLines.{SayTheSame}
use Rattle.fdb_audit.proofs.read_back.are_said.Given as goal

-- all say the same if those that are left do
abbrev pub invariant-loop-one : goal.invariant-loop-one
invariant-loop-one l = record {
  as_many : length l.one-iterator.a.rest.now ≡ length l.one-iterator.b.rest.now;
  all : SayTheSame (line_names l.reader) l.one-iterator.a.rest.now (line_names l.theirs) l.one-iterator.b.rest.now → SayTheSame (line_names l.reader) l.said (line_names l.theirs) l.kept;
}
