-- The first end of a table that outdates a version.
use Rattle.std.specs.Prelude.{◌≡◌, ℕ, ◌<◌, ◌&&◌, nat_lt, Bool, List, Option, None, Some, cond, true, length}
use Rattle.fdb_lines.specs.declared.line.End.{End}
use Rattle.fdb_lines.specs.declared.fault.Fault.{Fault}
use Rattle.fdb_lines.specs.declared.line.Line.{Line}
use Rattle.fdb_lines.specs.declared.known.Exposure.{Exposure}
use Rattle.fdb_lines.specs.Before.{ended}
use Rattle.fdb_lines.specs.Late.{is_outdated, IsFirstThat}
use Rattle.fdb_lines.specs.Lines.{line_at}
use Rattle.fdb_lines.specs.private.Known.{counts_at, version_in}

-- whether a line that lets its version be known outdates a version
abbrev pub outdates_by : Fault → Exposure → List Line → ℕ → ℕ → Bool
outdates_by fault seen lines version j = counts_at seen lines j && is_outdated fault version (version_in lines j)

-- the first end of the lines that pass a test; none where none that passes has a known end
abbrev pub IsFirstEnd : (ℕ → Bool) → List Line → Option End → Type 0
IsFirstEnd test lines None = (j : ℕ) → j < length lines → test j ≡ true → ended (line_at lines j) ≡ None
IsFirstEnd test lines (Some end) = IsFirstThat test lines end.place end.time

-- the one of two that ended first, and the first where they ended together
abbrev pub sooner : Option End → Option End → Option End
sooner None other = other
sooner (Some one) None = Some one
sooner (Some one) (Some other) = Some (cond (nat_lt other.time one.time) other one)
