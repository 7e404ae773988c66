-- Why a fault stands, in words of the log. (this product's own)
use Rattle.std.specs.Prelude.{◌≡◌, ℕ, max, ◌+◌, ◌<◌, ◌≤◌, ◌==◌, ◌&&◌, ◌||◌, Bool, false, List, Option, None, Some, IsTrue, IsFalse, length}
use Rattle.fdb_lines.specs.declared.fault.Fault.{Fault}
use Rattle.fdb_lines.specs.declared.fault.Fault.TheVariants.{Order, Wrong, NotAbove, Twice, Stray}
use Rattle.fdb_lines.specs.declared.fault.Found.{Found}
use Rattle.fdb_lines.specs.declared.line.Line.{Line}
use Rattle.fdb_lines.specs.declared.log.AuditOpts.{AuditOpts}
use Rattle.fdb_lines.specs.declared.fault.Finding.{Finding}
use Rattle.fdb_lines.specs.declared.fault.Means.{Means}
use Rattle.fdb_lines.specs.declared.fault.Means.TheVariants.{Ended, Own, Learnt}
use Rattle.fdb_lines.specs.declared.fault.Reason.{Reason}
use Rattle.fdb_lines.specs.declared.fault.Reason.TheVariants.{Known, Unreported, Reported, Drawn, Undrawn}
use Rattle.fdb_lines.specs.declared.fault.Witness.{Witness}
use Rattle.fdb_lines.specs.Audit.{case_of, start_of}
use Rattle.fdb_lines.specs.Lines.{Kind, Lines, version_at, line_at, draws, shows, is_learn, kind_of, version_of, teller_of}
use Rattle.fdb_lines.specs.Before.{began, comes_before, ended, has_heard, one_client}
use Rattle.fdb_lines.specs.Faults.{draws_again, draws_it, is_drawn, is_own, is_reported, knows, last, reports_it}

-- ---- a line of which a call knew

-- How the call at a place knew of a line: that had ended by more than the margin before, or is of the same client, or the
-- client has a line above by which it learnt from one who had heard of it.
abbrev pub IsMeans : ℕ → List Line → ℕ → ℕ → Means → Type 0
IsMeans margin lines j k Ended = (end : ℕ) × (ended (line_at lines j) ≡ Some end) × (end + margin < began (line_at lines k))
IsMeans margin lines j k Own = IsTrue (one_client (line_at lines j).client (line_at lines k).client)
IsMeans margin lines j k (Learnt m) =
    (m < k) × IsTrue (one_client (line_at lines m).client (line_at lines k).client) × IsTrue (is_learn (kind_of (line_at lines m).call))
    × IsTrue (has_heard lines m (teller_of (line_at lines m).call) j)

-- Whether the call at a place knew of a line that lets this version be known.
abbrev pub knew_by : Lines → AuditOpts → (Kind → Bool) → ℕ → ℕ → ℕ → Bool
knew_by log opts lets_know k version j =
    comes_before log.timed opts.margin log.lines j k
    && (lets_know (kind_of (line_at log.lines j).call) && version_of (line_at log.lines j).call == version)

-- A line of which the call at a place knew, that lets this version be known, and how it knew.
pub record IsWitness (log : Lines) (opts : AuditOpts) (lets_know : Kind → Bool) (k version : ℕ) (by : Witness) : Type 0 where
  pub there : by.place < length log.lines
  pub knew : IsTrue (knew_by log opts lets_know k version by.place)
  pub means : IsMeans opts.margin log.lines by.place k by.means

-- A version was known to the call at a place: by a line, or, where no line lets it be known, since all began with it.
abbrev pub IsKnown : Lines → AuditOpts → (Kind → Bool) → ℕ → ℕ → Option Witness → Type 0
IsKnown log opts lets_know k version None =
    (version ≡ start_of opts.complete) × ((j : ℕ) → j < length log.lines → IsFalse (knew_by log opts lets_know k version j))
IsKnown log opts lets_know k version (Some by) = IsWitness log opts lets_know k version by

-- ---- the first line that passes a test, and the tests of the reasons

abbrev pub IsFirstPassing : (ℕ → Bool) → ℕ → ℕ → Type 0
IsFirstPassing test n j = (j < n) × IsTrue (test j) × ((i : ℕ) → i < j → IsFalse (test i))

-- which kinds have a version that others may know: one that was shown or drawn
abbrev pub shows_or_draws : Kind → Bool
shows_or_draws kind = shows kind || draws kind

-- What makes a fault stand at a place. A reason of another kind of fault is none.
abbrev pub IsReason : Lines → AuditOpts → ℕ → Fault → Reason → Type 0
-- the call knew a newer version: the greatest that was shown before it
IsReason log opts k Order (Known version by) =
    let c = case_of log opts in (version_at c k < version) × (version ≡ knows c k) × IsKnown log opts shows k version by
-- no line reports the version that was read
IsReason log opts k Wrong Unreported = let c = case_of log opts in is_reported c (version_at c k) ≡ false
-- the first line that reports it knew it, or a newer one, before: that is the greatest that it knew
IsReason log opts k Wrong (Reported j version by) =
    let c = case_of log opts in
    IsFirstPassing (reports_it c (version_at c k)) (length log.lines) j × (version_at c k ≤ version) × (version ≡ knows c j)
    × IsKnown log opts shows j version by
-- the new version is not above the greatest that was shown or drawn before
IsReason log opts k NotAbove (Known version by) =
    let c = case_of log opts in
    (version_at c k ≤ version) × (version ≡ max (knows c k) (last c k)) × IsKnown log opts shows_or_draws k version by
-- another line drew it, and not both are commits: the first such line
IsReason log opts k Twice (Drawn j) = let c = case_of log opts in IsFirstPassing (draws_again c k) (length log.lines) j
-- a line drew it, and none of the client that reports it: the first that drew it
IsReason log opts k Stray (Drawn j) =
    let c = case_of log opts in IsFirstPassing (draws_it c (version_at c k)) (length log.lines) j × (is_own c k ≡ false)
-- no line drew the version that is reported
IsReason log opts k Stray Undrawn = let c = case_of log opts in is_drawn c (version_at c k) ≡ false
IsReason log opts k fault reason = ⊥

-- the fault of a finding, without its reason
abbrev pub found_of : Finding → Found
found_of finding = finding.found

abbrev pub HasReason : Lines → AuditOpts → Finding → Type 0
HasReason log opts finding = IsReason log opts finding.found.place finding.found.fault finding.reason
