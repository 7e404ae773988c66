-- By how much a stale read or a commit version is late: the call that was the first to outdate it. (this product's own)
use Rattle.std.specs.Prelude.{◌≡◌, ◌≢◌, ◌⊎◌, ℕ, ◌-◌, ◌<◌, ◌≤◌, ◌&&◌, nat_lt, nat_le, Bool, false, List, Option, None, Some, IsTrue, length}
use Rattle.fdb_lines.specs.declared.fault.Fault.{Fault}
use Rattle.fdb_lines.specs.declared.fault.Fault.TheVariants.{Order, Wrong, NotAbove, Twice, Stray}
use Rattle.fdb_lines.specs.declared.fault.Late.{Late}
use Rattle.fdb_lines.specs.declared.line.Line.{Line}
use Rattle.fdb_lines.specs.declared.log.AuditOpts.{AuditOpts}
use Rattle.fdb_lines.specs.declared.fault.Finding.{Finding}
use Rattle.fdb_lines.specs.Audit.{case_of}
use Rattle.fdb_lines.specs.Before.{began, ended}
use Rattle.fdb_lines.specs.Faults.{stands}
use Rattle.fdb_lines.specs.Lines.{Kind, Lines, kind_of, line_at, shows, version_of}
use Rattle.fdb_lines.specs.Reasons.{shows_or_draws}

-- Whether another version outdates that of a call: a newer one that of a read, one as new or newer that of a draw.
abbrev pub is_outdated : Fault → ℕ → ℕ → Bool
is_outdated Order version other = nat_lt version other
is_outdated Wrong version other = false
is_outdated NotAbove version other = nat_le version other
is_outdated Twice version other = false
is_outdated Stray version other = false

-- Which kinds can outdate a call: those that show a version a read, those that show or draw one a draw.
abbrev pub can_outdate : Fault → Kind → Bool
can_outdate Order kind = shows kind
can_outdate Wrong kind = false
can_outdate NotAbove kind = shows_or_draws kind
can_outdate Twice kind = false
can_outdate Stray kind = false

-- Whether a line outdates the call at a place. A call that draws a version passes itself, as it has that version.
abbrev pub outdates : Fault → List Line → ℕ → ℕ → Bool
outdates fault lines k j =
    can_outdate fault (kind_of (line_at lines j).call)
    && is_outdated fault (version_of (line_at lines k).call) (version_of (line_at lines j).call)

-- A line passes a test and ended at a moment, and no line that passes had ended before.
pub record IsFirstThat (test : ℕ → Bool) (lines : List Line) (j end : ℕ) : Type 0 where
  pub there : j < length lines
  pub passes : IsTrue (test j)
  pub ended_at : ended (line_at lines j) ≡ Some end
  pub first : (i time : ℕ) → i < length lines → IsTrue (test i) → ended (line_at lines i) ≡ Some time → end ≤ time

-- whether a fault stands at a place under a margin
abbrev pub stands_under : Fault → Lines → AuditOpts → ℕ → ℕ → Bool
stands_under fault log opts k margin = stands (case_of log (record { complete = opts.complete; margin = margin })) fault k

-- By how much a call is late: the fault stands under each lesser margin, and under this one or a greater only where it
-- stands under every margin: by what its own client had seen, or by the version that all began with.
pub record IsLateBy (fault : Fault) (log : Lines) (opts : AuditOpts) (k by : ℕ) : Type 0 where
  pub under : (margin : ℕ) → margin < by → IsTrue (stands_under fault log opts k margin)
  pub not_beyond : (margin : ℕ) → by ≤ margin → IsTrue (stands_under fault log opts k margin) → (other : ℕ) → IsTrue (stands_under fault log opts k other)

-- By how much the call at a place is late: from the end of the call that was the first to outdate it to where it began.
-- None where no line that outdates it has a known end, or it is itself the first of them to end.
abbrev pub IsLate : Fault → Lines → AuditOpts → ℕ → Option Late → Type 0
IsLate fault log opts k None =
    (((j : ℕ) → j < length log.lines → IsTrue (outdates fault log.lines k j) → ended (line_at log.lines j) ≡ None)
    ⊎ ((end : ℕ) × IsFirstThat (outdates fault log.lines k) log.lines k end))
    × IsLateBy fault log opts k 0
IsLate fault log opts k (Some late) =
    (end : ℕ) × IsFirstThat (outdates fault log.lines k) log.lines late.place end × (late.place ≢ k)
    × (late.by ≡ began (line_at log.lines k) - end) × IsLateBy fault log opts k late.by

-- of a stale read and of a version that is not above others it is said by how much they are late, and of no other fault
abbrev pub IsLateAt : Lines → AuditOpts → ℕ → Fault → Option Late → Type 0
IsLateAt log opts k Order late = IsLate Order log opts k late
IsLateAt log opts k Wrong late = late ≡ None
IsLateAt log opts k NotAbove late = IsLate NotAbove log opts k late
IsLateAt log opts k Twice late = late ≡ None
IsLateAt log opts k Stray late = late ≡ None

abbrev pub HasLate : Lines → AuditOpts → Finding → Type 0
HasLate log opts finding = IsLateAt log opts finding.found.place finding.found.fault finding.late

-- A call is late at least by so much: by a line that outdates it and had ended before a moment, from whose end that is; and
-- the fault stands under each lesser margin.
abbrev pub IsLateAtLeast : ℕ → Fault → Lines → AuditOpts → ℕ → Option Late → Type 0
IsLateAtLeast at fault log opts k None = ⊥
IsLateAtLeast at fault log opts k (Some late) =
    (end : ℕ) × (late.place < length log.lines) × IsTrue (outdates fault log.lines k late.place)
    × (ended (line_at log.lines late.place) ≡ Some end) × (end < at) × (late.by ≡ began (line_at log.lines k) - end)
    × ((margin : ℕ) → margin < late.by → IsTrue (stands_under fault log opts k margin))

-- it is said how late a call is: exactly, or, by a line that had ended before a moment, at least
abbrev pub HasLateSince : ℕ → Lines → AuditOpts → Finding → Type 0
HasLateSince at log opts finding = HasLate log opts finding ⊎ IsLateAtLeast at finding.found.fault log opts finding.found.place finding.late
