-- The orders that explain a log with keys, one for each key. (this product's own)
use Rattle.std.specs.Prelude.{◌≡◌, ℕ, List, Option, map, option_map, slice_index}
use Rattle.fdb_lines.specs.declared.order.KeyOrder.{KeyOrder}
use Rattle.fdb_lines.specs.declared.log.AuditOpts.{AuditOpts}
use Rattle.fdb_lines.specs.declared.slot.OrderStep.{OrderStep}
use Rattle.fdb_lines.specs.Keys.{case_of_key, places_of}
use Rattle.fdb_lines.specs.Lines.{Lines}
use Rattle.fdb_lines.specs.OrderSteps.{IsOrderOf}

-- a step among the lines at some places, with its line told of the whole log
abbrev pub placed_step : List ℕ → OrderStep → OrderStep
placed_step places step = record { effect = step.effect; place = option_map (slice_index places) step.place; shared = step.shared }

-- the steps of a key are an order of its lines, which are told at their places in the whole log
abbrev pub IsOrderOfKey : Lines → List (Option ℕ) → AuditOpts → KeyOrder → Type 0
IsOrderOfKey log keys opts order =
    (steps : List OrderStep) × IsOrderOf (case_of_key log keys opts order.key) steps
    × (order.steps.items ≡ map (placed_step (places_of keys order.key)) steps)
