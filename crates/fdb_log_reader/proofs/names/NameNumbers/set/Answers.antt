use Rattle.std.proofs.Common.{◌≡◌, length, ap, ◌∙◌, arith}
use Rattle.std.proofs.lemmas.Result.{on_ok_weaker}
use Rattle.std.specs.BTreeMap.{get, get_by_text}
use Rattle.std.specs.Ordering.{nat_cmp}
use Rattle.fdb_log_reader.specs.private.Codes.{name_code, number_at}
use Rattle.fdb_log_reader.proofs.Codes.{set_long, set_short}
use Rattle.fdb_log_reader.proofs.names.NameNumbers.set.Goals as goal

pub returns-then-bytes-le-SHORT-clause-set : goal.returns-then-bytes-le-SHORT-clause-set
unfolding number_at
returns-then-bytes-le-SHORT-clause-set c =
    let old = c.args.self.now in
    let name = c.args.name.now in
    let few = c.if-bytes-le-SHORT.true in
    let size = ap length c.bytes_of-bytes.ensures.value in
    let code : c.name_code.result ≡ name_code name = c.name_code.ensures ∙ ap name_code c.bytes_of-bytes.ensures.value in
    on_ok_weaker c.set_short.result
    (λ is. set_short (λ q. get nat_cmp old.short q) (λ q. get nat_cmp c.set_short.new.short q) (λ q. get_by_text old.long q) name c.args.number c.bytes_of-bytes.ensures.bytes (omega arith)
    (rw code at is))
    c.set_short.ensures.set

pub returns-else-bytes-le-SHORT-clause-set : goal.returns-else-bytes-le-SHORT-clause-set
unfolding number_at
returns-else-bytes-le-SHORT-clause-set c =
    let old = c.args.self.now in
    let name = c.args.name.now in
    let many = c.if-bytes-le-SHORT.false in
    let size = ap length c.bytes_of-bytes.ensures.value in
    on_ok_weaker c.set_long.result
    (λ is q bytes. set_long (λ q. get nat_cmp old.short q) (λ q. get_by_text old.long q) (λ q. get_by_text c.set_long.new.long q) name c.args.number (omega arith) is q)
    c.set_long.ensures.set
