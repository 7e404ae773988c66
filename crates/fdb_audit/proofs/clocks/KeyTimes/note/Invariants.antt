use Rattle.std.proofs.Common.{◌≡◌, ◌-◌, ◌+◌, ◌<◌, ◌≤◌, ℕ, Some, length, slice_get, vec_len}
use Rattle.fdb_audit.proofs.clocks.KeyTimes.note.Given as goal

abbrev pub invariant-new : goal.invariant-new
invariant-new l = record {
  wanted : l.self.are_wanted ≡ l.initial.self.are_wanted;
  least : length l.initial.self.last.items ≤ length l.self.last.items;
  most : length l.self.last.items ≤ l.key + 1;
  kept : (k : ℕ) → k < length l.initial.self.last.items → slice_get l.self.last.items k ≡ slice_get l.initial.self.last.items k;
  new : (k : ℕ) → length l.initial.self.last.items ≤ k → k < length l.self.last.items → slice_get l.self.last.items k ≡ Some l.line;
}

abbrev pub decreases-new : goal.decreases-new
decreases-new l = (l.key + 1) - vec_len l.self.last
