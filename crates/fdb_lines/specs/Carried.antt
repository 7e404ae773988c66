-- A part of a log with times that stands for all of it: what begins from a moment on knows as much by it. (this product's own)
use Rattle.std.specs.Prelude.{◌≡◌, ◌⊎◌, ℕ, ◌+◌, zero, suc, ◌<◌, ◌≤◌, nat_le, nat_lt, ◌||◌, not, Bool, true, false, cond, List, [], ◌∷◌, ◌++◌, Option, None, Some, IsTrue, length, slice_index}
use Rattle.fdb_lines.specs.declared.line.Line.{Line}
use Rattle.fdb_lines.specs.Before.{began, ended}
use Rattle.fdb_lines.specs.Lines.{Kind, Lines, kind_of, line_at, lines_in, shows, version_of}
use Rattle.fdb_lines.specs.Reasons.{shows_or_draws}

-- lines with times, as a log
abbrev pub with_times : List Line → Lines
with_times lines = record { timed = true; lines = lines }

-- Whether a call had ended by more than the margin before a moment: it comes before all that begin then or later.
abbrev pub past_by : ℕ → ℕ → Option ℕ → Bool
past_by margin at None = false
past_by margin at (Some end) = nat_lt (end + margin) at

abbrev pub is_past : ℕ → ℕ → Line → Bool
is_past margin at line = past_by margin at (ended line)

-- What a line lets be known is covered where a line of the part lets as new a version be known, and is past.
abbrev pub IsCovered : ℕ → ℕ → (Kind → Bool) → List Line → Line → Type 0
IsCovered margin at lets_know part line =
    IsTrue (lets_know (kind_of line.call)) → (i : ℕ) × (i < length part) × IsTrue (is_past margin at (line_at part i))
    × IsTrue (lets_know (kind_of (line_at part i).call)) × (version_of line.call ≤ version_of (line_at part i).call)

-- A line may go that began before the moment, and comes before nothing, as its end is not known, or is covered.
pub record MayGo (margin at : ℕ) (part : List Line) (line : Line) : Type 0 where
  pub old : began line < at
  pub nothing_new : (ended line ≡ None) ⊎ (IsCovered margin at shows part line × IsCovered margin at shows_or_draws part line)

abbrev pub IsAmong : List ℕ → ℕ → Type 0
IsAmong places j = (i : ℕ) × (i < length places) × (slice_index places i ≡ j)

-- The lines at some places stand for all from a moment on: they keep their order, and each other line may go.
pub record StandFor (margin at : ℕ) (lines : List Line) (places : List ℕ) : Type 0 where
  pub within : (i : ℕ) → i < length places → slice_index places i < length lines
  pub rising : (i j : ℕ) → i < j → j < length places → slice_index places i < slice_index places j
  pub rest : (j : ℕ) → j < length lines → IsAmong places j ⊎ MayGo margin at (lines_in lines places) (line_at lines j)

-- the places below n that pass a test, in order
abbrev pub places_where : (ℕ → Bool) → ℕ → List ℕ
places_where test zero = []
places_where test (suc n) = places_where test n ++ cond (test n) (n ∷ []) []

-- Whether a line is open at a moment: it began then or later, or is known to have ended later.
abbrev pub ends_later : ℕ → ℕ → Option ℕ → Bool
ends_later margin at None = false
ends_later margin at (Some end) = not (nat_lt (end + margin) at)

abbrev pub is_open : ℕ → ℕ → Line → Bool
is_open margin at line = nat_le at (began line) || ends_later margin at (ended line)

-- how many lines of a log are open
abbrev pub open_count : ℕ → ℕ → List Line → ℕ
open_count margin at lines = length (places_where (λ j. is_open margin at (line_at lines j)) (length lines))

-- Each line that is left out has a version below one.
abbrev pub AreLeftBelow : ℕ → List Line → List ℕ → Type 0
AreLeftBelow version lines places = (j : ℕ) → j < length lines → IsAmong places j ⊎ (version_of (line_at lines j).call < version)
