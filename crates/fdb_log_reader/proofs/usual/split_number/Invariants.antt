use Rattle.std.proofs.Common.{◌≡◌, ◌⊎◌, ◌-◌, ◌<◌, ◌≤◌, decimal, length, take}
use Rattle.fdb_log_reader.proofs.usual.split_number.Given as goal

-- the digits so far are those of the number
abbrev pub invariant-digits : goal.invariant-digits
invariant-digits l = (l.end ≤ length l.fn.bytes) × (((l.end ≡ 0) × (l.number ≡ 0)) ⊎ ((0 < l.end) × (take l.end l.fn.bytes ≡ decimal l.number)))

abbrev pub decreases-digits : goal.decreases-digits
decreases-digits l = length l.fn.bytes - l.end
