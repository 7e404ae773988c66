use Rattle.std.proofs.Common.{◌≡◌, ℕ, ◌<◌, get_or, length, slice_index}
use Rattle.fdb_lines.specs.declared.key_part.KeyPart.{KeyPart}
use Rattle.fdb_lines.specs.declared.key_part.SettledKey.{SettledKey}
use Rattle.fdb_lines.specs.private.KeyParts.{IsNextOf}
use Rattle.fdb_lines.proofs.key_parts.next_parts.Given as goal

abbrev pub invariant-loop-place : goal.invariant-loop-place
invariant-loop-place l = record {
  as_many : length l.next_parts.items ≡ l.place-index;
  entries_too : length l.told.items ≡ l.place-index;
  each : (j : ℕ) (d e : KeyPart) (f : SettledKey) → j < l.place-index
      → IsNextOf l.at (get_or l.parts (slice_index l.places j) d) (get_or l.next_parts.items j e) (get_or l.told.items j f);
}
