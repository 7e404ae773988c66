use Rattle.std.proofs.Common.{arith}
use Rattle.fdb_log_reader.proofs.Codes.{code_few}
use Rattle.fdb_log_reader.proofs.names.name_code.Goals as goal

pub overflow_mul-code : goal.overflow_mul-code
overflow_mul-code c =
    let few = c.loop-byte.invariant.few in
    let most = code_few c.loop-byte.byte-index (omega arith) in
    omega arith

pub overflow_add-code : goal.overflow_add-code
overflow_add-code c =
    let few = c.loop-byte.invariant.few in
    let most = code_few c.loop-byte.byte-index (omega arith) in
    omega arith
