use Rattle.std.proofs.Common.{◌≡◌, ◌++◌, drop, map, take}
use Rattle.serde_json.specs.Find.{get}
use Rattle.serde_json.specs.View.{view}
use Rattle.fdb_log_reader.specs.Columns.{shown_of, with_shown}
use Rattle.fdb_log_reader.proofs.columns.add_shown.Given as goal

-- the columns so far have what the line says, and the others are as they were
abbrev pub invariant-loop-column : goal.invariant-loop-column
invariant-loop-column l =
    map shown_of l.columns ≡ map (λ column. with_shown column (get column.member (view l.fn.line))) (take l.column-index (map shown_of l.fn.columns)) ++ drop l.column-index (map shown_of l.fn.columns)
