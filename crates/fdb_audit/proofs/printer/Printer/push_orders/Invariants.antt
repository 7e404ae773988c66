use Rattle.std.proofs.Common.{◌≡◌, ◌++◌, drop, string_bytes}
use Rattle.fdb_audit.specs.Judged.{orders_text}
use Rattle.fdb_audit.specs.private.{shown_in}
use Rattle.fdb_audit.proofs.printer.Printer.push_orders.Given as goal

-- what is written, and the steps of what is left, are all steps
abbrev pub invariant-loop-order : goal.invariant-loop-order
invariant-loop-order l =
    string_bytes l.out ++ orders_text l.json (shown_in l.self) (drop l.order-index l.orders)
    ≡ string_bytes l.fn.out ++ orders_text l.json (shown_in l.self) l.orders
