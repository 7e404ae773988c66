use Rattle.std.proofs.Common.{◌≡◌, length, take}
use Rattle.fdb_lines.specs.Keys.{keys_of}
use Rattle.fdb_lines.specs.Log.{lines_of}
use Rattle.fdb_lines.specs.private.KeyOrders.{AreOrdersOf}
use Rattle.fdb_lines.proofs.Gathered.{AreGathered}
use Rattle.fdb_lines.proofs.order.orders_by_key.Given as goal

abbrev pub invariant-loop-part : goal.invariant-loop-part
invariant-loop-part l = record {
  gathered : AreGathered (lines_of l.log) l.opts l.keys l.part l.found.items;
  orders : length l.found.items ≡ 0 → AreOrdersOf (lines_of l.log) l.keys l.opts (take l.part (keys_of l.keys)) l.orders.items;
}
