-- Which lines stand for all, as the code finds them.
use Rattle.std.specs.Prelude.{ℕ, ◌==◌, ◌&&◌, ◌||◌, nat_le, nat_lt, Bool, true, false, List, Option, None, Some}
use Rattle.fdb_lines.specs.declared.line.Line.{Line}
use Rattle.fdb_lines.specs.Before.{began, ended}
use Rattle.fdb_lines.specs.Carried.{ends_later, is_past}
use Rattle.fdb_lines.specs.Lines.{Kind, draws, kind_of, line_at, shows, version_of}
use Rattle.fdb_lines.specs.Reasons.{shows_or_draws}
use Rattle.fdb_lines.specs.private.Known.{version_in}

-- which lines let their versions be known: those that show one, or those that draw one too
abbrev pub lets_of : Bool → Kind → Bool
lets_of false kind = shows kind
lets_of true kind = shows_or_draws kind

abbrev pub counts_past : ℕ → ℕ → Bool → List Line → ℕ → Bool
counts_past margin at drawn lines j = is_past margin at (line_at lines j) && lets_of drawn (kind_of (line_at lines j).call)

-- whether a version is above that of a line, if there is one
abbrev pub is_above : List Line → ℕ → Option ℕ → Bool
is_above lines version None = true
is_above lines version (Some k) = nat_lt (version_in lines k) version

abbrev pub is_at : Option ℕ → ℕ → Bool
is_at None j = false
is_at (Some k) j = k == j

-- Whether a line is needed beside the newest that are past: it began from the moment on, or may yet let a newer version be known.
abbrev pub is_needed : ℕ → ℕ → List Line → Option ℕ → Option ℕ → Line → Bool
is_needed margin at lines shown known line =
    nat_le at (began line)
    || (ends_later margin at (ended line)
    && ((shows (kind_of line.call) && is_above lines (version_of line.call) shown) || (draws (kind_of line.call) && is_above lines (version_of line.call) known)))

abbrev pub is_kept : ℕ → ℕ → List Line → Option ℕ → Option ℕ → ℕ → Bool
is_kept margin at lines shown known j = is_needed margin at lines shown known (line_at lines j) || (is_at shown j || is_at known j)
