-- What is counted of the lines of each part of a log.
use Rattle.std.specs.Prelude.{◌≡◌, ℕ, ◌<◌, ◌≤◌, List, All, Option, None, Some, cond, length, slice_index}
use Rattle.std.specs.List.{sum_by}
use Rattle.fdb_lines.specs.declared.log.AuditOpts.{AuditOpts}
use Rattle.fdb_lines.specs.declared.log.Part.{Part}
use Rattle.fdb_lines.specs.declared.sums.Sums.{Sums}
use Rattle.fdb_lines.specs.Audit.{case_of}
use Rattle.fdb_lines.specs.Judged.{ordered_in, unreported_in}
use Rattle.fdb_lines.specs.Lines.{Lines, part_of}
use Rattle.fdb_lines.specs.Summary.{ordered, unreported}

abbrev pub unreported_of : Lines → AuditOpts → Part → ℕ
unreported_of log opts part = unreported (case_of (part_of log part.places.items) opts)

-- of lines without times no pair is counted
abbrev pub ordered_if : Lines → AuditOpts → ℕ
ordered_if log opts = cond log.timed (ordered (case_of log opts)) 0

abbrev pub ordered_of : Lines → AuditOpts → Part → ℕ
ordered_of log opts part = ordered_if (part_of log part.places.items) opts

abbrev pub lines_in_all : List Part → ℕ
lines_in_all parts = sum_by (λ (part : Part). length part.places.items) parts

-- the places of a part are of lines of the log
abbrev pub IsWithin : Lines → Part → Type 0
IsWithin log part = (j : ℕ) → j < length part.places.items → slice_index part.places.items j < length log.lines

abbrev pub ArePartsOf : Lines → List Part → Type 0
ArePartsOf log parts = (lines_in_all parts ≤ 4294967295) × All (IsWithin log) parts

-- what is counted of all lines, or of those of each key
pub record AreSums (log : Lines) (keys : Option (List (Option ℕ))) (opts : AuditOpts) (sums : Sums) : Type 0 where
  pub reads : sums.unreported ≡ unreported_in log keys opts
  pub pairs : cond log.timed (Some sums.ordered) None ≡ cond log.timed (Some (ordered_in log keys opts)) None

-- what is counted of the lines of some parts
pub record AreSumsOf (log : Lines) (opts : AuditOpts) (parts : List Part) (sums : Sums) : Type 0 where
  pub reads : sums.unreported ≡ sum_by (unreported_of log opts) parts
  pub pairs : sums.ordered ≡ sum_by (ordered_of log opts) parts
