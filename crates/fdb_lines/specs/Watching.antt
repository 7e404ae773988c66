-- What an audit that watches tells of lines. (this product's own)
use Rattle.std.specs.Prelude.{ℕ, ◌&&◌, ◌||◌, nat_le, nat_lt, Bool, true, false, List, Option, None, Some}
use Rattle.std.specs.List.{filter}
use Rattle.fdb_lines.specs.declared.fault.Fault.{Fault}
use Rattle.fdb_lines.specs.declared.fault.Fault.TheVariants.{Order, Wrong, NotAbove, Twice, Stray}
use Rattle.fdb_lines.specs.declared.fault.Found.{Found}
use Rattle.fdb_lines.specs.declared.line.Line.{Line}
use Rattle.fdb_lines.specs.declared.log.AuditOpts.{AuditOpts}
use Rattle.fdb_lines.specs.Audit.{case_of}
use Rattle.fdb_lines.specs.Before.{began}
use Rattle.fdb_lines.specs.Carried.{with_times}
use Rattle.fdb_lines.specs.Lines.{Case, line_at}
use Rattle.fdb_lines.specs.Listing.{faults_of}

-- What is asked of all lines: no log of all calls.
abbrev pub opts_of : ℕ → AuditOpts
opts_of margin = record { complete = None; margin = margin }

abbrev pub watched : ℕ → List Line → Case
watched margin lines = case_of (with_times lines) (opts_of margin)

-- the faults that are told: stale reads, and versions drawn that are not above what was known
abbrev pub is_watched : Fault → Bool
is_watched Order = true
is_watched Wrong = false
is_watched NotAbove = true
is_watched Twice = false
is_watched Stray = false

-- whether a call began before a moment, where one is given
abbrev pub begins_before : Option ℕ → Line → Bool
begins_before None line = true
begins_before (Some to) line = nat_lt (began line) to

-- Whether it is time to tell of a line, by its number: it began before a moment, and from another on; or it came late, as
-- one of those since a number, and began from an earlier moment on.
abbrev pub is_due : ℕ → ℕ → ℕ → Option ℕ → ℕ → Line → Bool
is_due from early since to number line = begins_before to line && (nat_le from (began line) || (nat_le since number && nat_le early (began line)))

-- What is told of all lines: the faults of these kinds at the lines that are due, in their order.
abbrev pub told_of : ℕ → (ℕ → Line → Bool) → List Line → List Found
told_of margin due lines = filter (λ (found : Found). is_watched found.fault && due found.place (line_at lines found.place)) (faults_of (watched margin lines))
