-- Which faults are stale reads: those of the order. (this product's own)
use Rattle.std.specs.Prelude.{Bool, true, false}
use Rattle.fdb_lines.specs.declared.fault.Fault.{Fault}
use Rattle.fdb_lines.specs.declared.fault.Fault.TheVariants.{Order, Wrong, NotAbove, Twice, Stray}
use Rattle.fdb_lines.specs.declared.fault.Found.{Found}

abbrev pub is_order : Fault → Bool
is_order Order = true
is_order Wrong = false
is_order NotAbove = false
is_order Twice = false
is_order Stray = false

abbrev pub is_stale : Found → Bool
is_stale found = is_order found.fault
