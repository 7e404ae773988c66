use Rattle.std.proofs.Common.{◌≡◌, map}
use Rattle.fdb_lines.specs.private.Slots.{entries_below, entry_of}
use Rattle.fdb_lines.specs.private.Tables.{case_in}
use Rattle.fdb_lines.proofs.order.slots_of.Given as goal

abbrev pub invariant-loop-place : goal.invariant-loop-place
invariant-loop-place l = map entry_of l.slots.items ≡ entries_below (case_in l.tables) l.place
