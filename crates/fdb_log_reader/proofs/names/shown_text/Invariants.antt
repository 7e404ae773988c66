use Rattle.std.proofs.Common.{◌≡◌, ◌++◌, IsUtf8, chars, flat_map, string_bytes}
use Rattle.std.specs.Str.Iter.{chars_rest}
use Rattle.fdb_log_reader.specs.Printed.{shown, shown_text}
use Rattle.fdb_log_reader.proofs.names.shown_text.Given as goal

-- what is written, and what is left to be shown, are the text as it is shown
abbrev pub invariant-loop-c : goal.invariant-loop-c
invariant-loop-c l = IsUtf8 (chars_rest l.c-iterator)
    × (string_bytes l.out ++ flat_map shown (chars (chars_rest l.c-iterator)) ≡ shown_text l.fn.text)
