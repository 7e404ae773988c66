use Rattle.fdb_log_reader.specs.Split.{keyed_line, keyed_said}
use Rattle.fdb_log_reader.specs.private.Usual.{beside_of, says_of}
use Rattle.fdb_log_reader.proofs.KeyedLines.{keyed_so, usual_keyed}
use Rattle.fdb_log_reader.proofs.part_text.keyed_line.Goals as goal

pub returns-in-Some : goal.returns-in-Some
returns-in-Some c =
    let member = c.args.member.now in
    let line = c.in-Some.line in
    keyed_so c.keyed_said.result (keyed_line member c.args.above c.args.bytes.now) (keyed_said member c.args.above (says_of line) (beside_of line))
    (usual_keyed member c.args.above c.args.bytes.now line c.in-Some.ensures) c.keyed_said.ensures
