use Rattle.std.proofs.Common.{◌≡◌, map, string_bytes, take}
use Rattle.fdb_log_reader.specs.Printed.{printed}
use Rattle.fdb_audit.proofs.members.Rows.new.Given as goal

abbrev pub invariant-loop-member : goal.invariant-loop-member
invariant-loop-member l = map string_bytes l.printed.items ≡ map (λ name. printed (string_bytes name)) (take l.member-index l.members)
