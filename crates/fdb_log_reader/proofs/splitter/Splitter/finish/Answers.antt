use Rattle.std.proofs.Common.{◌≡◌, ◌∙◌, ◌<◌, ◌==◌, arith, false, length, rules, sym}
use Rattle.std.proofs.lemmas.Bool.Decides.{nat_tests}
use Rattle.fdb_log_reader.proofs.Placed.{finished}
use Rattle.fdb_log_reader.proofs.splitter.Splitter.finish.Goals as goal

pub returns : goal.returns
returns c =
    let old = c.args.self in
    let size = old.front.ok.0 in
    let test : (old.front.len == 0) ≡ false = sym c.is_empty.ensures ∙ c.if-is_empty.false in
    let some : 0 < length old.front.items = search (rules, arith, nat_tests) in
    finished old c.end_line.result some c.end_line.ensures.empty c.end_line.ensures.read
