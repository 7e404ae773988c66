-- How many faults there are of each kind. (this product's own)
use Rattle.std.specs.Prelude.{ℕ, Bool, true, false, List, count_by}
use Rattle.fdb_lines.specs.declared.fault.Fault.{Fault}
use Rattle.fdb_lines.specs.declared.fault.Fault.TheVariants.{Order, Wrong, NotAbove, Twice, Stray}

abbrev pub same_fault : Fault → Fault → Bool
same_fault Order Order = true
same_fault Wrong Wrong = true
same_fault NotAbove NotAbove = true
same_fault Twice Twice = true
same_fault Stray Stray = true
same_fault fault other = false

abbrev pub how_many_of : Fault → List Fault → ℕ
how_many_of fault faults = count_by (λ it. same_fault it fault) faults
