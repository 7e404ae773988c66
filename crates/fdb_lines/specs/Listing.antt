-- The faults of lines, listed line by line. (this product's own)
use Rattle.std.specs.Prelude.{ℕ, zero, suc, cond, List, [], ◌∷◌, ◌++◌, length}
use Rattle.fdb_lines.specs.declared.fault.Fault.{Fault}
use Rattle.fdb_lines.specs.declared.fault.Fault.TheVariants.{Order, Wrong, NotAbove, Twice, Stray}
use Rattle.fdb_lines.specs.declared.fault.Found.{Found}
use Rattle.fdb_lines.specs.Lines.{Case}
use Rattle.fdb_lines.specs.Faults.{stands}

abbrev pub found_if : Case → Fault → ℕ → List Found
found_if c fault k = cond (stands c fault k) (record { place = k; fault = fault } ∷ []) []

abbrev pub faults_at : Case → ℕ → List Found
faults_at c k = found_if c Order k ++ found_if c Wrong k ++ found_if c NotAbove k ++ found_if c Twice k ++ found_if c Stray k

abbrev pub faults_below : Case → ℕ → List Found
faults_below c zero = []
faults_below c (suc k) = faults_below c k ++ faults_at c k

abbrev pub faults_of : Case → List Found
faults_of c = faults_below c (length c.lines)
