-- What each line knows: a line before it whose version is newest, and how it is known.
use Rattle.std.specs.Prelude.{◌≡◌, ℕ, ◌<◌, ◌≤◌, ◌==◌, ◌-◌, ◌&&◌, nat_lt, Bool, true, false, cond, List, Option, None, Some, length, slice_index_or}
use Rattle.fdb_lines.specs.declared.line.End.{End}
use Rattle.fdb_lines.specs.declared.line.Line.{Line}
use Rattle.fdb_lines.specs.declared.fault.Means.{Means}
use Rattle.fdb_lines.specs.declared.fault.Witness.{Witness}
use Rattle.fdb_lines.specs.declared.known.Exposure.{Exposure}
use Rattle.fdb_lines.specs.Lines.{line_at, kind_of, version_of}
use Rattle.fdb_lines.specs.Before.{began, ended, one_client}
use Rattle.fdb_lines.specs.Faults.{greatest_of}
use Rattle.fdb_lines.specs.Reasons.{IsMeans}
use Rattle.fdb_lines.specs.private.EndTable.{Moment, comes_by, is_earlier}
use Rattle.fdb_lines.specs.private.Entries.{AreEntries, IsEntry}
use Rattle.fdb_lines.specs.private.Exposure.{counts}

-- whether a line lets its version be known
abbrev pub counts_at : Exposure → List Line → ℕ → Bool
counts_at seen lines j = counts seen (kind_of (line_at lines j).call)

abbrev pub version_in : List Line → ℕ → ℕ
version_in lines j = version_of (line_at lines j).call

-- the newest version that lines before one let know
abbrev pub newest_known : (ℕ → ℕ → Bool) → Exposure → List Line → ℕ → ℕ
newest_known before seen lines k = greatest_of (λ j. before j k && counts_at seen lines j) (version_in lines) (length lines)

-- ---- a line that is known

-- One of the lines that pass a test whose version is newest, by a witness of a kind; none where none passes.
abbrev pub IsKnownBy : (ℕ → Bool) → (Witness → Type 0) → List Line → Option Witness → Type 0
IsKnownBy test Is lines None = (j : ℕ) → j < length lines → test j ≡ false
IsKnownBy test Is lines (Some by) =
    (by.place < length lines) × (test by.place ≡ true) × Is by
    × ((j : ℕ) → j < length lines → test j ≡ true → version_in lines j ≤ version_in lines by.place)

-- the version that it lets be known, and 0
abbrev pub version_by : List Line → Option Witness → ℕ
version_by lines None = 0
version_by lines (Some by) = version_in lines by.place

-- the newer of two, and the first where none is
abbrev pub newer : List Line → Option Witness → Option Witness → Option Witness
newer lines None other = other
newer lines (Some one) None = Some one
newer lines (Some one) (Some other) = Some (cond (nat_lt (version_in lines one.place) (version_in lines other.place)) other one)

abbrev pub by_at : List (Option Witness) → ℕ → Option Witness
by_at known k = slice_index_or known k None

-- what the call at a place knows, of lines that pass a test for it
abbrev pub KnowsOf : (ℕ → ℕ → Bool) → ℕ → List Line → ℕ → Option Witness → Type 0
KnowsOf test margin lines k = IsKnownBy (test k) (λ (by : Witness). IsMeans margin lines by.place k by.means) lines

-- what the calls of the first n lines know
abbrev pub AreKnownOf : (ℕ → ℕ → Bool) → ℕ → List Line → ℕ → List (Option Witness) → Type 0
AreKnownOf test margin lines n known = (length known ≡ n) × ((k : ℕ) → k < n → KnowsOf test margin lines k (by_at known k))

-- of all lines before them that let their versions be known
abbrev pub lets_know : (ℕ → ℕ → Bool) → Exposure → List Line → ℕ → ℕ → Bool
lets_know before seen lines k j = before j k && counts_at seen lines j

abbrev pub AreKnown : (ℕ → ℕ → Bool) → ℕ → Exposure → List Line → List (Option Witness) → Type 0
AreKnown before margin seen lines known = AreKnownOf (lets_know before seen lines) margin lines (length lines) known

-- ---- whether a line before one lets a version be known

abbrev pub tells : (ℕ → ℕ → Bool) → Exposure → List Line → ℕ → ℕ → ℕ → Bool
tells before seen lines k version j = before j k && (counts_at seen lines j && version_in lines j == version)

-- one that does, and how it was known, or none does
abbrev pub IsFound : (ℕ → ℕ → Bool) → ℕ → Exposure → List Line → ℕ → ℕ → Option Witness → Type 0
IsFound before margin seen lines k version None = (j : ℕ) → j < length lines → tells before seen lines k version j ≡ false
IsFound before margin seen lines k version (Some by) =
    (by.place < length lines) × (tells before seen lines k version by.place ≡ true) × IsMeans margin lines by.place k by.means

-- the witness, if its line has the version
abbrev pub of_version : List Line → ℕ → Option Witness → Option Witness
of_version lines version None = None
of_version lines version (Some by) = cond (version_in lines by.place == version) (Some by) None

-- ---- by time: the tables of ends, of all clients or by client

-- All lines stand in one group, or those of each client in its own.
abbrev pub in_group : Bool → Option ℕ → ℕ → Bool
in_group false client group = 0 == group
in_group true client group = one_client client (Some group)

abbrev pub had_ended : Option ℕ → ℕ → ℕ → ℕ → Bool
had_ended None above time place = false
had_ended (Some end) above time place = is_earlier end above time place

-- whether a line stands in a table, in a group and before a moment
abbrev pub stands_in : Bool → Exposure → Line → ℕ → Moment → Bool
stands_in by_client seen line above moment =
    counts seen (kind_of line.call)
    && (in_group by_client line.client moment.group && had_ended (ended line) above moment.time moment.place)

abbrev pub AreEnds : Bool → Exposure → List Line → ℕ → List End → Type 0
AreEnds by_client seen lines =
    AreEntries (λ (end : End). end.place) (λ (end : End). end.version) comes_by (version_in lines)
    (λ moment j. stands_in by_client seen (line_at lines j) j moment)

abbrev pub IsEndOf : Bool → Exposure → Line → ℕ → Option End → Type 0
IsEndOf by_client seen line above =
    IsEntry (λ (end : End). end.place) (λ (end : End). end.version) comes_by above (version_of line.call) (stands_in by_client seen line above)

abbrev pub moment : ℕ → ℕ → ℕ → Moment
moment group time place = record { group = group; time = time; place = place }

-- whether a line of all had ended by more than the margin before another began
abbrev pub of_all : ℕ → Exposure → List Line → ℕ → ℕ → Bool
of_all margin seen lines k j = stands_in false seen (line_at lines j) j (moment 0 (began (line_at lines k) - margin) 0)

-- whether a line of its client's had ended before it began
abbrev pub of_own : Exposure → List Line → ℕ → ℕ → Bool
of_own seen lines k j =
    counts_at seen lines j && (one_client (line_at lines j).client (line_at lines k).client && had_ended (ended (line_at lines j)) j (began (line_at lines k)) k)

-- the line at a place, as what was known so
abbrev pub witness : Option ℕ → Means → Option Witness
witness None means = None
witness (Some place) means = Some (record { place = place; means = means })
