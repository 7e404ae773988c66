use Rattle.std.proofs.Common.{◌≡◌, ◌++◌, map, option_map, option_to_list, string_bytes, take}
use Rattle.fdb_audit.specs.private.{members_of}
use Rattle.fdb_audit.proofs.told_faults.ToldFaults.new.Given as goal

abbrev pub invariant-loop-member : goal.invariant-loop-member
invariant-loop-member l = members_of l.columns.items ≡ option_to_list (option_map (λ key. key.now) l.fn.key) ++ map string_bytes (take l.member-index l.members)
