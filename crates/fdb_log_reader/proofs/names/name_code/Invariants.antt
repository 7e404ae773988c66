use Rattle.std.proofs.Common.{◌≡◌, ◌<◌}
use Rattle.fdb_log_reader.specs.private.Codes.{code_below}
use Rattle.fdb_log_reader.proofs.Codes.{limit}
use Rattle.fdb_log_reader.proofs.names.name_code.Given as goal

abbrev pub invariant-loop-byte : goal.invariant-loop-byte
invariant-loop-byte l = record {
  code : l.code ≡ code_below l.name l.byte-index;
  few : l.code < limit l.byte-index;
}
