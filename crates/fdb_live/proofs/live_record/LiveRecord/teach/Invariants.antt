use Rattle.std.proofs.Common.{◌≡◌, ◌<◌, ◌≤◌, ℕ, Some, length, slice_get}
use Rattle.fdb_live.specs.Seen.{Sight}
use Rattle.fdb_live.proofs.Owners.{IsTaught}
use Rattle.fdb_live.proofs.live_record.LiveRecord.teach.Given as goal

abbrev pub invariant-loop-other : goal.invariant-loop-other
invariant-loop-other g l =
    (l.first ≡ l.initial.first)
    × (length l.others ≡ length l.initial.others)
    × ((k : ℕ) → l.other-index ≤ k → slice_get l.others k ≡ slice_get l.initial.others k)
    × ((k : ℕ) (token : Sight) → k < l.other-index → slice_get l.initial.others k ≡ Some token → IsTaught l.others l.first k token)
