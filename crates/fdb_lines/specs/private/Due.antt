-- What is told of lines, one after another.
use Rattle.std.specs.Prelude.{ℕ, zero, suc, cond, Bool, List, [], ◌++◌, slice_index}
use Rattle.fdb_lines.specs.declared.watch.Due.{Due}
use Rattle.fdb_lines.specs.declared.fault.Fault.TheVariants.{Order, NotAbove}
use Rattle.fdb_lines.specs.declared.fault.Found.{Found}
use Rattle.fdb_lines.specs.declared.line.Line.{Line}
use Rattle.fdb_lines.specs.Lines.{Case, line_at}
use Rattle.fdb_lines.specs.Listing.{found_if}
use Rattle.fdb_lines.specs.Watching.{is_due}

abbrev pub is_due_by : Due → ℕ → Line → Bool
is_due_by due = is_due due.from due.early due.since due.to

-- whether it is time to tell of the line at a place, which has one of these numbers
abbrev pub due_at : (ℕ → Line → Bool) → List ℕ → List Line → ℕ → Bool
due_at due numbers lines k = due (slice_index numbers k) (line_at lines k)

abbrev pub told_at : Case → ℕ → List Found
told_at c k = found_if c Order k ++ found_if c NotAbove k

-- what is told of those of the lines below n that pass a test
abbrev pub told_below : (ℕ → Bool) → Case → ℕ → List Found
told_below test c zero = []
told_below test c (suc k) = told_below test c k ++ cond (test k) (told_at c k) []
