use Rattle.std.proofs.Common.{◌≡◌, ◌≤◌, ℕ, ◌<◌, [], All, None, get_or, length, slice_index}
use Rattle.fdb_lines.specs.declared.key_part.KeyPart.{KeyPart}
use Rattle.fdb_lines.specs.declared.key_part.SettledKey.{SettledKey}
use Rattle.fdb_lines.specs.private.KeyParts.{IsEntryOf}
use Rattle.fdb_lines.proofs.key_parts.finish_parts.Given as goal

abbrev pub invariant-loop-place : goal.invariant-loop-place
invariant-loop-place l = record {
  as_many : length l.told.items ≡ l.place-index;
  size : length l.parts.items ≡ length l.initial.parts.items;
  each : (j : ℕ) (d : KeyPart) (e : SettledKey) → j < l.place-index
      → IsEntryOf None (get_or l.initial.parts.items (slice_index l.places j) d) (get_or l.told.items j e);
  kept : All (λ (entry : SettledKey). entry.settled.kept.items ≡ []) l.told.items;
  rest : (j : ℕ) (d : KeyPart) → l.place-index ≤ j → j < length l.places
      → get_or l.parts.items (slice_index l.places j) d ≡ get_or l.initial.parts.items (slice_index l.places j) d;
}
