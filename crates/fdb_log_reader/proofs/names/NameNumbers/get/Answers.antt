use Rattle.std.proofs.Common.{◌≡◌, ◌<◌, true, cond, length, nat_lt, ap, sym, ◌∙◌, arith}
use Rattle.std.proofs.lemmas.Bool.Decides.{nat_tests}
use Rattle.std.proofs.lemmas.Grind.{common_steps}
use Rattle.std.specs.BTreeMap.{get, get_by_text}
use Rattle.std.specs.Ordering.{nat_cmp}
use Rattle.fdb_log_reader.specs.private.Codes.{name_code, number_at}
use Rattle.fdb_log_reader.proofs.names.NameNumbers.get.Goals as goal

pub returns-then-bytes-le-SHORT-clause-number : goal.returns-then-bytes-le-SHORT-clause-number
unfolding number_at
returns-then-bytes-le-SHORT-clause-number c =
    let numbers = c.args.self.now in
    let name = c.args.name.now in
    let few = c.if-bytes-le-SHORT.true in
    let size = ap length c.bytes_of-bytes.ensures.value in
    let less : length name < 16 = omega arith in
    let here : nat_lt (length name) 16 ≡ true = grind (arith, nat_tests, less) in
    let code : c.name_code.result ≡ name_code name = c.name_code.ensures ∙ ap name_code c.bytes_of-bytes.ensures.value in
    let found : c.copied.result ≡ get nat_cmp numbers.short (name_code name) = grind (arith, common_steps, c.get.ensures.value, c.copied.ensures, code) in
    found ∙ sym (ap (λ b. cond b (get nat_cmp numbers.short (name_code name)) (get_by_text numbers.long name)) here)
