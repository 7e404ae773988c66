use Rattle.std.proofs.Common.{◌≡◌, ◌++◌, length, slice_index, string_bytes}
use Rattle.fdb_log_reader.specs.Splitter.{counts_of, texts_of}
use Rattle.fdb_split.specs.Text.{counts_listed}
use Rattle.fdb_split.proofs.counts_text.add_counts.Given as goal

-- the counts of the parts so far
abbrev pub invariant-loop-part : goal.invariant-loop-part
invariant-loop-part l = string_bytes l.text ≡ string_bytes l.fn.text ++ counts_listed (λ part. slice_index (counts_of l.splitter) part) l.part
