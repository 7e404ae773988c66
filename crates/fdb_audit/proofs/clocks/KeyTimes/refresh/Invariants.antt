use Rattle.std.proofs.Common.{◌≡◌, ◌<◌, ◌≤◌, ℕ, length, option_map, slice_get}
use Rattle.fdb_audit.specs.private.KeyTimes.{seen_when}
use Rattle.fdb_audit.proofs.clocks.KeyTimes.refresh.Given as goal

abbrev pub invariant-loop-last : goal.invariant-loop-last
invariant-loop-last l = record {
  size : length l.last-items ≡ length l.fn.self.last.items;
  left : (key : ℕ) → l.last-index ≤ key → slice_get l.last-items key ≡ slice_get l.fn.self.last.items key;
  seen : (key : ℕ) → key < l.last-index → slice_get l.last-items key ≡ option_map (seen_when l.believed) (slice_get l.fn.self.last.items key);
}
