use Rattle.std.proofs.Common.{◌≡◌, ◌++◌, drop}
use Rattle.fdb_history.specs.private.Auditing.{table_of}
use Rattle.fdb_history.proofs.auditing.registers.table_of.Given as goal

-- the table goes on with what the changes that are left make of the current register
abbrev pub invariant-loop-change : goal.invariant-loop-change
invariant-loop-change l = l.table.items ++ table_of l.current (drop l.change-index l.changes) ≡ table_of l.fn.start l.changes
