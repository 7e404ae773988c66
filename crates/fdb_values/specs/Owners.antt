-- Values that lines of two keys have.
use Rattle.std.specs.Prelude.{ℕ, ◌==◌, ◌&&◌, not, Bool, true, List, Option, None, Some}
use Rattle.std.specs.Option.{option_eq}
use Rattle.fdb_lines.specs.declared.line.Line.{Line}
use Rattle.fdb_lines.specs.Faults.{some_below}
use Rattle.fdb_lines.specs.Keys.{key_at}
use Rattle.fdb_values.specs.ByValue.{start_value, value_at}

-- whether a line has the value of another and is of another key
abbrev pub shares : List Line → List (Option ℕ) → ℕ → ℕ → Bool
shares lines keys k j = value_at lines j == value_at lines k && not (option_eq ◌==◌ (key_at keys j) (key_at keys k))

-- whether a line has a value, but for that with which all begins, that a line of another key above it has
abbrev pub is_shared : List Line → List (Option ℕ) → ℕ → Bool
is_shared lines keys k = not (value_at lines k == start_value) && some_below (shares lines keys k) k

-- whether what has an owner, or none yet, is of a key
abbrev pub owns : Option (Option ℕ) → Option ℕ → Bool
owns None key = true
owns (Some owner) key = option_eq ◌==◌ owner key
