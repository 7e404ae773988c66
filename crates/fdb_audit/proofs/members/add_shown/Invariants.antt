use Rattle.std.proofs.Common.{◌≡◌, ◌++◌, List, map, take}
use Rattle.fdb_log_reader.specs.Columns.{shown_of}
use Rattle.fdb_audit.specs.Judged.{AreBeside}
use Rattle.fdb_audit.specs.Text.{Beside}
use Rattle.fdb_audit.specs.private.{beside_of}
use Rattle.fdb_audit.proofs.members.add_shown.Given as goal

-- the columns so far
abbrev pub invariant-loop-column : goal.invariant-loop-column
invariant-loop-column l =
    (shown : List Beside) × AreBeside (map shown_of (take l.column-index l.fn.columns)) shown
    × (map beside_of l.members.items ≡ map beside_of l.fn.members.items ++ shown)
