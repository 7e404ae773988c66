-- The orders of some keys.
use Rattle.std.specs.Prelude.{◌≡◌, ℕ, List, Option, All, map}
use Rattle.fdb_lines.specs.declared.order.KeyOrder.{KeyOrder}
use Rattle.fdb_lines.specs.declared.log.AuditOpts.{AuditOpts}
use Rattle.fdb_lines.specs.KeyOrders.{IsOrderOfKey}
use Rattle.fdb_lines.specs.Lines.{Lines}

-- an order for each of some keys, in their order
abbrev pub AreOrdersOf : Lines → List (Option ℕ) → AuditOpts → List (Option ℕ) → List KeyOrder → Type 0
AreOrdersOf log keys opts names orders = (map (λ (order : KeyOrder). order.key) orders ≡ names) × All (IsOrderOfKey log keys opts) orders
