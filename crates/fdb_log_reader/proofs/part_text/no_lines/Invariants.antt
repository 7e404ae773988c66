use Rattle.std.proofs.Common.{◌≡◌, ℕ, [], get_or, length, slice_index}
use Rattle.fdb_log_reader.specs.Splitter.{counts_in, texts_in}
use Rattle.fdb_log_reader.proofs.part_text.no_lines.Given as goal

-- so many parts so far, and none of them has a line
abbrev pub invariant-loop-part : goal.invariant-loop-part
invariant-loop-part l = record {
  many : length l.parts.items ≡ l._part;
  texts : (part : ℕ) → get_or (texts_in l.parts.items) part [] ≡ [];
  counts : (part : ℕ) → slice_index (counts_in l.parts.items) part ≡ 0;
}
