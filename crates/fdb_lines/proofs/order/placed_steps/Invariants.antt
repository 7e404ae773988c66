use Rattle.std.proofs.Common.{◌≡◌, map, take}
use Rattle.fdb_lines.specs.KeyOrders.{placed_step}
use Rattle.fdb_lines.proofs.order.placed_steps.Given as goal

abbrev pub invariant-loop-step : goal.invariant-loop-step
invariant-loop-step l = l.placed.items ≡ map (placed_step l.places) (take l.step-index l.steps)
