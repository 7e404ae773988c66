-- Registers that are judged by value: each commit writes another value, and a read gives one. In which order the values were
-- written nothing tells but the times. (P. B. Gibbons and E. Korach, Testing Shared Memories, 1997)
-- A value stands on a line where else a version does.
use Rattle.std.specs.Prelude.{◌≡◌, ◌≢◌, ◌⊎◌, ℕ, ◌<◌, ◌≤◌, Bool, List, None, Some, IsTrue, length, map}
use Rattle.fdb_lines.specs.declared.line.Operation.{Operation}
use Rattle.fdb_lines.specs.declared.line.Operation.TheVariants.{Read as ReadOf, Commit as CommitOf, Ask as AskOf, Report as ReportOf, Learn as LearnFrom}
use Rattle.fdb_lines.specs.declared.line.Line.{Line}
use Rattle.fdb_lines.specs.Audit.{case_of}
use Rattle.fdb_lines.specs.Before.{began}
use Rattle.fdb_lines.specs.Carried.{is_past, with_times}
use Rattle.fdb_lines.specs.Lines.{Case, Kind, Read, Commit, kind_of, line_at, version_of}

-- the value with which all begins
abbrev pub start_value : ℕ
start_value = 0

abbrev pub value_at : List Line → ℕ → ℕ
value_at lines k = version_of (line_at lines k).call

abbrev pub call_at : List Line → ℕ → Kind
call_at lines k = kind_of (line_at lines k).call

-- Each line is a read or a commit, no value is committed twice, and that with which all begins is not committed.
pub record AreByValue (lines : List Line) : Type 0 where
  pub calls : (k : ℕ) → k < length lines → (call_at lines k ≡ Read) ⊎ (call_at lines k ≡ Commit)
  pub once : (j k : ℕ) → j < length lines → k < length lines → call_at lines j ≡ Commit → call_at lines k ≡ Commit
      → value_at lines j ≡ value_at lines k → j ≡ k
  pub new : (k : ℕ) → k < length lines → call_at lines k ≡ Commit → value_at lines k ≢ start_value

-- A call comes before those that began after it had ended, by more than the margin. Whose it was is not asked.
abbrev pub comes_first : ℕ → List Line → ℕ → ℕ → Bool
comes_first margin lines j k = is_past margin (began (line_at lines k)) (line_at lines j)

-- ---- what it is to be explained

-- a commit stands above a moment, and no other between
pub record IsLastAbove (lines : List Line) (at : ℕ → ℕ) (moment j : ℕ) : Type 0 where
  pub there : j < length lines
  pub writes : call_at lines j ≡ Commit
  pub above : at j < moment
  pub last : (i : ℕ) → i < length lines → call_at lines i ≡ Commit → at i < moment → at i ≤ at j

-- what the register has at a moment: the value of the last commit above, or, where none is above, that with which all begins
abbrev pub HasValue : List Line → (ℕ → ℕ) → ℕ → ℕ → Type 0
HasValue lines at moment v =
    ((j : ℕ) × IsLastAbove lines at moment j × (value_at lines j ≡ v))
    ⊎ (((i : ℕ) → i < length lines → call_at lines i ≡ Commit → moment ≤ at i) × (v ≡ start_value))

-- The moments at which calls take place explain the lines: no two are one, what comes before comes before, and each read
-- gives what the register has.
pub record ExplainByValue (margin : ℕ) (lines : List Line) (at : ℕ → ℕ) : Type 0 where
  pub apart : (j k : ℕ) → j < length lines → k < length lines → at j ≡ at k → j ≡ k
  pub ordered : (j k : ℕ) → j < length lines → k < length lines → IsTrue (comes_first margin lines j k) → at j < at k
  pub reads : (k : ℕ) → k < length lines → call_at lines k ≡ Read → HasValue lines at (at k) (value_at lines k)

abbrev pub AreExplainedByValue : ℕ → List Line → Type 0
AreExplainedByValue margin lines = (at : ℕ → ℕ) × ExplainByValue margin lines at

-- ---- values by rank, as versions

-- some call of a value comes before some call of another
abbrev pub SomeComesFirst : ℕ → List Line → ℕ → ℕ → Type 0
SomeComesFirst margin lines u v =
    (j : ℕ) × (k : ℕ) × (j < length lines) × (k < length lines) × (value_at lines j ≡ u) × (value_at lines k ≡ v)
    × IsTrue (comes_first margin lines j k)

-- Values of lines have ranks: each another, and that with which all begins has 0. A value ranks below another if a call of it
-- comes before a call of that, unless one of that comes before one of it, too.
pub record IsOrderOfValues (margin : ℕ) (lines : List Line) (rank : ℕ → ℕ) : Type 0 where
  pub first : rank start_value ≡ 0
  pub others : (k : ℕ) → k < length lines → rank (value_at lines k) ≡ 0 → value_at lines k ≡ start_value
  pub apart : (j k : ℕ) → j < length lines → k < length lines → rank (value_at lines j) ≡ rank (value_at lines k)
      → value_at lines j ≡ value_at lines k
  pub ordered : (j k : ℕ) → j < length lines → k < length lines → IsTrue (comes_first margin lines j k)
      → value_at lines j ≢ value_at lines k → value_at lines k ≢ start_value
      → (SomeComesFirst margin lines (value_at lines k) (value_at lines j) → ⊥) → rank (value_at lines j) < rank (value_at lines k)

abbrev pub ranked_call : (ℕ → ℕ) → Operation → Operation
ranked_call rank (ReadOf v) = ReadOf (rank v)
ranked_call rank (CommitOf v) = CommitOf (rank v)
ranked_call rank (AskOf v) = AskOf (rank v)
ranked_call rank (ReportOf v) = ReportOf (rank v)
ranked_call rank (LearnFrom a) = LearnFrom a

-- a line with its value's rank for a version, and of nobody who is known
abbrev pub ranked_line : (ℕ → ℕ) → Line → Line
ranked_line rank line = record { client = None; call = ranked_call rank line.call; times = line.times }

-- What is asked of the ranked lines: all calls are there, and all begins with version 0.
abbrev pub ranked : ℕ → List Line → (ℕ → ℕ) → Case
ranked margin lines rank = case_of (with_times (map (ranked_line rank) lines)) (record { complete = Some 0; margin = margin })
