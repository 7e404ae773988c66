use Rattle.std.proofs.Common.{◌≡◌, ℕ, ◌-◌, ◌<◌, ◌≤◌, length, slice_index, true}
use Rattle.json.specs.Run.{is_plain}
use Rattle.fdb_log_reader.proofs.usual.plain_len.Given as goal

abbrev pub invariant-plain : goal.invariant-plain
invariant-plain l = (l.end ≤ length l.fn.bytes) × ((k : ℕ) → k < l.end → is_plain (slice_index l.fn.bytes k) ≡ true)

abbrev pub decreases-plain : goal.decreases-plain
decreases-plain l = length l.fn.bytes - l.end
