use Rattle.std.proofs.Common.{[], append-nil, map, refl, string_bytes, subst}
use Rattle.fdb_log_reader.specs.LineReader.{line_names}
use Rattle.fdb_log_reader.specs.ReadLine.{known_of, ReadsLine}
use Rattle.fdb_log_reader.proofs.SingleLines.{takes}
use Rattle.fdb_log_reader.proofs.line_reader.LineReader.end_line.Goals as goal

pub returns-clause-read : goal.returns-clause-read
returns-clause-read c =
    let old = c.args.self.now in
    let names = line_names old in
    let more = known_of c.read_one.new.names in
    let read = c.in_ok-read.read in
    takes old _ [] old.front.items read (append-nil old.front.items) old.one_line
    (subst (λ line. ReadsLine (map string_bytes old.shown.items) names line read more) c.deref-2.ensures.value
    (subst (λ shown. ReadsLine (map string_bytes shown) names c.deref-2.result.now read more) c.deref.ensures.value c.in_ok-read.ensures))
    refl c.clear.ensures.items
