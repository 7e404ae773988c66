use Rattle.std.proofs.Common.{◌++◌, ap, map, refl, string_bytes, subst}
use Rattle.fdb_log_reader.specs.LineReader.{line_names}
use Rattle.fdb_log_reader.specs.ReadLine.{known_of, ReadsLine}
use Rattle.fdb_log_reader.proofs.SingleLines.{takes}
use Rattle.fdb_log_reader.proofs.line_reader.LineReader.take_whole.Goals as goal

pub returns : goal.returns
returns c =
    let old = c.args.self.now in
    let line = c.args.line.now in
    takes old _ line line c.in_ok-read.read (ap (λ front. front ++ line) c.requires.none) c.requires.line
    (subst (λ shown. ReadsLine (map string_bytes shown) (line_names old) line c.in_ok-read.read (known_of c.read_one.new.names)) c.deref.ensures.value c.in_ok-read.ensures)
    refl c.requires.none
