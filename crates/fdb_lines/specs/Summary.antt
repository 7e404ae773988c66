-- What a verdict stands on: the lines of a log, counted. (this product's own)
use Rattle.std.specs.Prelude.{ℕ, zero, suc, ◌+◌, ◌==◌, ◌&&◌, not, Bool, cond, List, Option, length, count_by}
use Rattle.std.specs.List.{sum_by}
use Rattle.fdb_lines.specs.declared.line.Line.{Line}
use Rattle.fdb_lines.specs.declared.log.AuditOpts.{AuditOpts}
use Rattle.fdb_lines.specs.Faults.{is_reported, some_below}
use Rattle.fdb_lines.specs.Keys.{case_of_key, keys_of}
use Rattle.fdb_lines.specs.Lines.{Case, Kind, Lines, kind_at, kind_of, version_at, is_read}

-- how many of the numbers below n pass a test
abbrev pub tally : (ℕ → Bool) → ℕ → ℕ
tally test zero = 0
tally test (suc n) = cond (test n) 1 0 + tally test n

-- how many lines are of the kinds that pass a test
abbrev pub how_many : (Kind → Bool) → List Line → ℕ
how_many is lines = count_by (λ (line : Line). is (kind_of line.call)) lines

abbrev pub reads_it : Case → ℕ → ℕ → Bool
reads_it c v j = is_read (kind_at c j) && version_at c j == v

-- Whether a line is the first that reads a version, other than the start, that no line reports.
abbrev pub is_first_of_others : Case → ℕ → Bool
is_first_of_others c k =
    (is_read (kind_at c k) && not (some_below (reads_it c (version_at c k)) k))
    && (not (version_at c k == c.start) && not (is_reported c (version_at c k)))

-- How many versions were read, other than the start, that no line reports.
abbrev pub unreported : Case → ℕ
unreported c = tally (is_first_of_others c) (length c.lines)

-- the sum of f of each number below n
abbrev pub sum_below : (ℕ → ℕ) → ℕ → ℕ
sum_below f zero = 0
sum_below f (suc n) = f n + sum_below f n

-- How many pairs of places below n there are of which one comes before the other.
abbrev pub pairs : (ℕ → ℕ → Bool) → ℕ → ℕ
pairs before n = sum_below (λ k. tally (λ j. before j k) n) n

-- How many pairs of lines are in order.
abbrev pub ordered : Case → ℕ
ordered c = pairs c.before (length c.lines)

-- ---- of a log with keys: what the lines of each key count by themselves, each key once

abbrev pub unreported_by_key : Lines → List (Option ℕ) → AuditOpts → ℕ
unreported_by_key log keys opts = sum_by (λ key. unreported (case_of_key log keys opts key)) (keys_of keys)

abbrev pub ordered_by_key : Lines → List (Option ℕ) → AuditOpts → ℕ
ordered_by_key log keys opts = sum_by (λ key. ordered (case_of_key log keys opts key)) (keys_of keys)
