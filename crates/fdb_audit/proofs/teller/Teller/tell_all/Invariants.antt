use Rattle.std.proofs.Common.{ℕ, All, List, Option, Result, take}
use Rattle.fdb_lines.specs.declared.key_part.KeyPart.{KeyPart}
use Rattle.fdb_lines.specs.KeyWatch.{AreTold, settled_in}
use Rattle.fdb_log_reader.specs.LineReader.{line_names}
use Rattle.fdb_log_reader.specs.ReadLine.{SaidLine}
use Rattle.fdb_log_reader.specs.declared.error.Why.{Why}
use Rattle.fdb_audit.specs.Following.{KeptBefore, keys_taken, lines_taken}
use Rattle.fdb_audit.specs.private.Followed.{AreNumbered, IsWatchedBy, TellsOn}
use Rattle.fdb_audit.proofs.teller.Teller.tell_all.Given as goal

-- what is told so far
abbrev pub invariant-loop-entry : goal.invariant-loop-entry
invariant-loop-entry l =
    (kept : KeptBefore) (read : List (Result SaidLine Why)) (to : Option ℕ) (parts : List KeyPart) (margin behind : ℕ) → AreNumbered kept l.taking read
    → All (IsWatchedBy margin behind to) parts → AreTold to (lines_taken read) (keys_taken read) parts l.told
    → TellsOn kept l.fn.self l.self margin behind read (line_names l.reader).clients (settled_in parts) to (take l.entry-index l.told)
