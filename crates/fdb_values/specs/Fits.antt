-- Which lines can be judged by value, by those above them.
use Rattle.std.specs.Prelude.{ℕ, ◌==◌, ◌&&◌, ◌||◌, not, Bool, List}
use Rattle.fdb_lines.specs.declared.line.Line.{Line}
use Rattle.fdb_lines.specs.Faults.{some_below}
use Rattle.fdb_lines.specs.Lines.{Kind, is_commit, is_read}
use Rattle.fdb_values.specs.ByValue.{call_at, start_value, value_at}

-- A read fits, and a commit of a value that was not committed, and is not that with which all begins.
abbrev pub fits_with : (ℕ → Bool) → Kind → ℕ → Bool
fits_with is_committed kind v = is_read kind || (is_commit kind && (not (v == start_value) && not (is_committed v)))

abbrev pub commits_it : List Line → ℕ → ℕ → Bool
commits_it lines v j = is_commit (call_at lines j) && value_at lines j == v

-- whether a line fits those above it
abbrev pub fits : List Line → ℕ → Bool
fits lines k = fits_with (λ v. some_below (commits_it lines v) k) (call_at lines k) (value_at lines k)
