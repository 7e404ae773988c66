-- A log that is divided into parts by its keys: all lines of a key are in one of them. (this product's own)
use Rattle.std.specs.Prelude.{◌≡◌, ℕ, zero, suc, ◌<◌, ◌==◌, false, List, [], ◌++◌, Option, length, map}
use Rattle.fdb_lines.specs.declared.fault.Found.{Found}
use Rattle.fdb_lines.specs.declared.log.AuditOpts.{AuditOpts}
use Rattle.fdb_lines.specs.Carried.{places_where}
use Rattle.fdb_lines.specs.Keys.{faults_by_key, key_at, placed_found}
use Rattle.fdb_lines.specs.Lines.{Lines, is_learn, kind_of, line_at, part_of}
use Rattle.fdb_lines.specs.StandByKey.{keys_in}

-- the places of the lines of a part, in order, where a rule says of which part a key is
abbrev pub places_in : (Option ℕ → ℕ) → List (Option ℕ) → ℕ → List ℕ
places_in rule keys part = places_where (λ k. rule (key_at keys k) == part) (length keys)

-- What an audit by key finds of the lines at some places as of a log of their own, told at their places in the whole log.
abbrev pub faults_apart : Lines → List (Option ℕ) → AuditOpts → List ℕ → List Found
faults_apart log keys opts places = map (placed_found places) (faults_by_key (part_of log places) (keys_in keys places) opts)

-- and what it finds of each of the first n parts
abbrev pub faults_by_part : Lines → List (Option ℕ) → AuditOpts → (Option ℕ → ℕ) → ℕ → List Found
faults_by_part log keys opts rule zero = []
faults_by_part log keys opts rule (suc n) =
    faults_by_part log keys opts rule n ++ faults_apart log keys opts (places_in rule keys n)

-- In a log without times no line has learnt, as none has beside keys.
abbrev pub LearnsNothing : Lines → Type 0
LearnsNothing log = log.timed ≡ false → (k : ℕ) → k < length log.lines → is_learn (kind_of (line_at log.lines k).call) ≡ false
