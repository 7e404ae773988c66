-- What is asked of a log, by its lines and the options of an audit. (this product's own)
use Rattle.std.specs.Prelude.{ℕ, Bool, true, false, List, Option, None, Some}
use Rattle.fdb_lines.specs.declared.slot.Effect.{Effect}
use Rattle.fdb_lines.specs.declared.log.AuditOpts.{AuditOpts}
use Rattle.fdb_lines.specs.Lines.{Case, Lines}
use Rattle.fdb_lines.specs.Before.{comes_before}
use Rattle.fdb_lines.specs.Explained.{Explains}

-- Where a log has all calls, it says with which version all began; else that is 0.
abbrev pub start_of : Option ℕ → ℕ
start_of None = 0
start_of (Some start) = start

abbrev pub is_complete : Option ℕ → Bool
is_complete None = false
is_complete (Some start) = true

-- What is asked of a log, as a case.
abbrev pub case_of : Lines → AuditOpts → Case
case_of log opts = record {
  lines = log.lines;
  before = comes_before log.timed opts.margin log.lines;
  start = start_of opts.complete;
  complete = is_complete opts.complete;
}

-- some history explains the lines: it orders their effects, and what others may have done
abbrev pub AreExplained : Case → Type 0
AreExplained c = (history : List Effect) × Explains c history
