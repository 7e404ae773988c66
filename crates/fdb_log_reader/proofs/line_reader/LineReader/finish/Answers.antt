use Rattle.std.proofs.Common.{◌≡◌, ◌∙◌, ◌<◌, ◌==◌, ap, arith, false, length, rules, sym}
use Rattle.std.proofs.lemmas.Bool.Decides.{nat_tests}
use Rattle.fdb_log_reader.proofs.SingleLines.{last_taken}
use Rattle.fdb_log_reader.proofs.line_reader.LineReader.finish.Goals as goal

pub returns-clause-read : goal.returns-clause-read
returns-clause-read c =
    let old = c.args.self.now in
    let size = old.front.ok.0 in
    let test : (old.front.len == 0) ≡ false = sym c.is_empty.ensures ∙ c.if-is_empty.false in
    let some : 0 < length old.front.items = search (rules, arith, nat_tests) in
    ap (λ on. on.0) (last_taken old c.end_line.new.self c.in_ok-read.read some c.in_ok-read.ensures.empty c.in_ok-read.ensures.read)

pub returns-clause-behind : goal.returns-clause-behind
returns-clause-behind c =
    let old = c.args.self.now in
    let size = old.front.ok.0 in
    let test : (old.front.len == 0) ≡ false = sym c.is_empty.ensures ∙ c.if-is_empty.false in
    let some : 0 < length old.front.items = search (rules, arith, nat_tests) in
    ap (λ on. on.1) (last_taken old c.end_line.new.self c.in_ok-read.read some c.in_ok-read.ensures.empty c.in_ok-read.ensures.read)
