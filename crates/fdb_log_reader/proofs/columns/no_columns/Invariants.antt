use Rattle.std.proofs.Common.{◌≡◌, map, string_bytes, take}
use Rattle.fdb_log_reader.specs.Columns.{nothing_shown, shown_of}
use Rattle.fdb_log_reader.proofs.columns.no_columns.Given as goal

-- the columns so far
abbrev pub invariant-loop-member : goal.invariant-loop-member
invariant-loop-member l = map shown_of l.columns.items ≡ map (λ member. nothing_shown (string_bytes member)) (take l.member-index l.fn.members)
