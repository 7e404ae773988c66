use Rattle.std.proofs.Common.{◌∙◌, ◌≤◌, [], length, map, option_map, string_bytes, sym, arith}
use Rattle.fdb_log_reader.specs.declared.reader.TheConstants.{MAX_LINE_BYTES}
use Rattle.fdb_log_reader.specs.ReadLine.{known_of}
use Rattle.fdb_log_reader.proofs.SingleLines.{none_named, usual_read, usual_says}
use Rattle.fdb_log_reader.proofs.read_line.read_line.Goals as goal

pub returns : goal.returns
returns c =
    let names = known_of c.args.names.now in
    let bytes = c.args.bytes.now in
    let line = c.in-Some.line in
    let short : length bytes ≤ MAX_LINE_BYTES = (let test = c.if-bytes-gt-MAX_LINE_BYTES.false in omega arith) in
    let hidden = none_named c.args.shown.now (sym c.is_empty.ensures ∙ c.if-is_empty.true) in
    usual_says c.read_said.result names (known_of c.read_said.new.names) (map string_bytes c.args.shown.now) bytes line hidden
    (usual_read names bytes (option_map (λ member. member.now) c.member.result) line short (grind arith) c.member.ensures c.in-Some.ensures)
    c.read_said.ensures.none (c.read_said.ensures.read [])
