use Rattle.std.proofs.Common.{◌≡◌, ◌++◌, List, map, take}
use Rattle.fdb_log_reader.specs.ReadLine.{SaidLine, said_in}
use Rattle.fdb_audit.specs.Following.{taken}
use Rattle.fdb_audit.specs.Kept.{kept_said}
use Rattle.fdb_audit.specs.private.KeptTexts.{said_of}
use Rattle.fdb_audit.proofs.kept.KeptText.add_all.Given as goal

-- those so far are added
abbrev pub invariant-loop-read : goal.invariant-loop-read
invariant-loop-read l = (before : List SaidLine) → said_of l.fn.self ≡ kept_said before → said_of l.self ≡ kept_said (before ++ taken (map said_in (take l.read-index l.lines)))
