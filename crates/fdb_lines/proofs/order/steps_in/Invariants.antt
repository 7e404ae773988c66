use Rattle.std.proofs.Common.{◌≡◌, ◌++◌, None, drop}
use Rattle.fdb_lines.specs.private.Slots.{steps_from}
use Rattle.fdb_lines.proofs.order.steps_in.Given as goal

abbrev pub invariant-loop-slot : goal.invariant-loop-slot
invariant-loop-slot l = l.steps.items ++ steps_from l.above (drop l.slot-index l.slots) ≡ steps_from None l.slots
