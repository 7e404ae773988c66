-- When lines are explained: there is an order of the calls, and of what others may have done, that register and
-- sequencer allow, in which what comes before comes before. (linearizability of Herlihy and Wing, 1990)
use Rattle.std.specs.Prelude.{◌≡◌, ◌≢◌, ◌⊎◌, ℕ, ◌<◌, ◌≤◌, ◌&&◌, ◌||◌, Bool, false, List, Some, slice_get, length, IsTrue}
use Rattle.fdb_lines.specs.declared.slot.Effect.{Effect}
use Rattle.fdb_lines.specs.declared.slot.Effect.TheVariants.{Asks, Reports, Reads}
use Rattle.fdb_lines.specs.Lines.{Kind, Read, Commit, Ask, Report, Learn, Case, kind_at, version_at, client_at, draws, reports, shows, is_commit, may_be_same_client}

-- what happens at a moment of a history, counted from 0
abbrev pub Happens : List Effect → ℕ → Effect → Type 0
Happens history moment effect = slice_get history moment ≡ Some effect

-- a version was reported before a moment, or all began with it
abbrev pub ReportedBefore : ℕ → List Effect → ℕ → ℕ → Type 0
ReportedBefore start history moment v =
    (v ≡ start) ⊎ ((m : ℕ) × (m < moment) × Happens history m (Reports v))

abbrev pub AskedBefore : List Effect → ℕ → ℕ → Type 0
AskedBefore history moment v = (m : ℕ) × (m < moment) × Happens history m (Asks v)

pub record IsLegalHistory (start : ℕ) (history : List Effect) : Type 0 where
  -- a read has a version that was reported before it, and the greatest
  pub had : (m v : ℕ) → Happens history m (Reads v) → ReportedBefore start history m v
  pub greatest : (m v w : ℕ) → Happens history m (Reads v) → ReportedBefore start history m w → w ≤ v
  -- a version is reported after it was asked for
  pub drawn : (m v : ℕ) → Happens history m (Reports v) → AskedBefore history m v
  -- what is asked for is above all that were asked for and all that were reported before
  pub rising : (m v w : ℕ) → Happens history m (Asks v) → AskedBefore history m w → w < v
  pub above : (m v w : ℕ) → Happens history m (Asks v) → ReportedBefore start history m w → w < v

-- the effect that a line's read or report is; nothing asks for that of a line that has neither
abbrev pub taken_by : Kind → ℕ → Effect
taken_by Read v = Reads v
taken_by Commit v = Reports v
taken_by Ask v = Reports v
taken_by Report v = Reports v
taken_by Learn v = Reports v

abbrev pub taken : Case → ℕ → Effect
taken c k = taken_by (kind_at c k) (version_at c k)

-- Callers who logged nothing may ask, read, and report what nobody in the log reports.
abbrev pub OthersMay : Case → Effect → Type 0
OthersMay c (Asks v) = Unit {0}
OthersMay c (Reports v) = (k : ℕ) → k < length c.lines → IsTrue (reports (kind_at c k)) → version_at c k ≢ v
OthersMay c (Reads v) = Unit {0}

-- What an ask drew is told to later asks alone: no read and no report shows it.
abbrev pub precedes : Case → ℕ → ℕ → Bool
precedes c j k = c.before j k && (shows (kind_at c j) || draws (kind_at c k))

-- the moments of a line, given those of the asks and of the reads and reports
abbrev pub IsMoment : Case → (ℕ → ℕ) → (ℕ → ℕ) → ℕ → ℕ → Type 0
IsMoment c asked took k m =
    (IsTrue (draws (kind_at c k)) × (m ≡ asked k)) ⊎ (IsTrue (shows (kind_at c k)) × (m ≡ took k))

pub record Explains (c : Case) (history : List Effect) : Type 0 where
  pub legal : IsLegalHistory c.start history
  -- each line's ask has a moment, and its read or report has one
  pub asked : ℕ → ℕ
  pub took : ℕ → ℕ
  pub asks : (k : ℕ) → k < length c.lines → IsTrue (draws (kind_at c k)) → Happens history (asked k) (Asks (version_at c k))
  pub takes : (k : ℕ) → k < length c.lines → IsTrue (shows (kind_at c k)) → Happens history (took k) (taken c k)
  -- no two lines have one, unless they are commits
  pub apart : (j k m : ℕ) → j < length c.lines → k < length c.lines → j ≢ k
      → IsMoment c asked took j m → IsMoment c asked took k m
      → IsTrue (is_commit (kind_at c j)) × IsTrue (is_commit (kind_at c k))
  -- where a line precedes another, each of its moments comes before each of the other's
  pub ordered : (j k m n : ℕ) → j < length c.lines → k < length c.lines → IsTrue (precedes c j k)
      → IsMoment c asked took j m → IsMoment c asked took k n → m < n
  -- a version is reported by who asked for it, where a line did; who is not known may be anybody
  pub owned : (j k : ℕ) → j < length c.lines → k < length c.lines → kind_at c k ≡ Report → IsTrue (draws (kind_at c j))
      → version_at c j ≡ version_at c k
      → (i : ℕ) × (i < length c.lines) × IsTrue (draws (kind_at c i)) × (version_at c i ≡ version_at c k)
      × IsTrue (may_be_same_client (client_at c i) (client_at c k))
  -- every other effect was done by callers who logged nothing, if the log may lack calls
  pub others : (m : ℕ) (effect : Effect) → Happens history m effect
      → ((k : ℕ) × (k < length c.lines) × IsMoment c asked took k m) ⊎ ((c.complete ≡ false) × OthersMay c effect)
