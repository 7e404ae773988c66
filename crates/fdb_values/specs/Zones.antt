-- The order of values by zones. (P. B. Gibbons and E. Korach, Testing Shared Memories, 1997) From the first end of its calls to
-- their last begin a value was there all the time, if that begin is later, by more than the margin: its zone is forward. Else it
-- is backward: all its calls have a moment in common, at their last begin.
use Rattle.std.specs.Prelude.{ℕ, zero, suc, ◌+◌, ◌*◌, ◌==◌, ◌&&◌, ◌||◌, min, nat_lt, Bool, cond, List, Option, None, Some, length}
use Rattle.fdb_lines.specs.declared.line.Line.{Line}
use Rattle.fdb_lines.specs.Before.{began, ended}
use Rattle.fdb_lines.specs.Faults.{greatest_of}
use Rattle.fdb_lines.specs.Lines.{line_at}
use Rattle.fdb_lines.specs.Summary.{tally}
use Rattle.fdb_values.specs.ByValue.{start_value, value_at}

-- the sooner of two moments, each of which may not be known
abbrev pub sooner : Option ℕ → Option ℕ → Option ℕ
sooner None other = other
sooner (Some a) None = Some a
sooner (Some a) (Some b) = Some (min a b)

-- of a value's calls among the first n lines, the first end, where one is known, and the last begin
abbrev pub first_end : List Line → ℕ → ℕ → Option ℕ
first_end lines v zero = None
first_end lines v (suc n) = sooner (cond (value_at lines n == v) (ended (line_at lines n)) None) (first_end lines v n)

abbrev pub last_begin : List Line → ℕ → ℕ → ℕ
last_begin lines v n = greatest_of (λ k. value_at lines k == v) (λ k. began (line_at lines k)) n

-- Where a zone stands: a forward one at the first end and the margin, and a backward one at the last begin; of two at one moment
-- the backward one stands below.
abbrev pub zone_key : ℕ → Option ℕ → ℕ → ℕ
zone_key margin None last = 2 * last
zone_key margin (Some first) last = cond (nat_lt (first + margin) last) (2 * (first + margin) + 1) (2 * last)

abbrev pub key_of : ℕ → List Line → ℕ → ℕ
key_of margin lines v = zone_key margin (first_end lines v (length lines)) (last_begin lines v (length lines))

-- one value stands below another: by their keys, and where these are one by the values themselves
abbrev pub stands_below : (ℕ → ℕ) → ℕ → ℕ → Bool
stands_below key u v = nat_lt (key u) (key v) || (key u == key v && nat_lt u v)

-- The rank of a value: one more than how many lines are of values that stand below; that with which all begins has 0.
abbrev pub rank_by_zone : ℕ → List Line → ℕ → ℕ
rank_by_zone margin lines v =
    cond (v == start_value) 0 (suc (tally (λ k. stands_below (key_of margin lines) (value_at lines k) v) (length lines)))
