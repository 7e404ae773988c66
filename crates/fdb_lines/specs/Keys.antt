-- Logs with keys: each key is a register of its own, with versions of its own. (this product's own)
use Rattle.std.specs.Prelude.{◌≡◌, ℕ, zero, suc, ◌==◌, cond, List, [], ◌∷◌, ◌++◌, Option, None, Some, length, map, slice_index, slice_index_or}
use Rattle.std.specs.Option.{option_eq}
use Rattle.fdb_lines.specs.declared.fault.Found.{Found}
use Rattle.fdb_lines.specs.declared.fault.Late.{Late}
use Rattle.fdb_lines.specs.declared.log.AuditOpts.{AuditOpts}
use Rattle.fdb_lines.specs.declared.fault.Finding.{Finding}
use Rattle.fdb_lines.specs.declared.fault.Means.{Means}
use Rattle.fdb_lines.specs.declared.fault.Means.TheVariants.{Ended, Own, Learnt}
use Rattle.fdb_lines.specs.declared.fault.Reason.{Reason}
use Rattle.fdb_lines.specs.declared.fault.Reason.TheVariants.{Known, Unreported, Reported, Drawn, Undrawn}
use Rattle.fdb_lines.specs.declared.fault.Witness.{Witness}
use Rattle.fdb_lines.specs.Audit.{case_of, AreExplained}
use Rattle.fdb_lines.specs.Late.{IsLateAt}
use Rattle.fdb_lines.specs.Lines.{Case, Lines, part_of}
use Rattle.fdb_lines.specs.Listing.{faults_at}
use Rattle.fdb_lines.specs.Reasons.{IsReason}

-- ---- the lines of a key

-- the key of the line at a place; lines that name none are of one register too
abbrev pub key_at : List (Option ℕ) → ℕ → Option ℕ
key_at keys k = slice_index_or keys k None

-- the places below n at which a line of a key stands, in order
abbrev pub places_below : List (Option ℕ) → Option ℕ → ℕ → List ℕ
places_below keys key zero = []
places_below keys key (suc n) = places_below keys key n ++ cond (option_eq ◌==◌ (key_at keys n) key) (n ∷ []) []

abbrev pub places_of : List (Option ℕ) → Option ℕ → List ℕ
places_of keys key = places_below keys key (length keys)

-- the place of a line among those of its key: how many of them stand above
abbrev pub place_among : List (Option ℕ) → ℕ → ℕ
place_among keys k = length (places_below keys (key_at keys k) k)

-- the keys of the lines below n, each once: a key comes in with its first line
abbrev pub keys_below : List (Option ℕ) → ℕ → List (Option ℕ)
keys_below keys zero = []
keys_below keys (suc n) = keys_below keys n ++ cond (place_among keys n == 0) (key_at keys n ∷ []) []

abbrev pub keys_of : List (Option ℕ) → List (Option ℕ)
keys_of keys = keys_below keys (length keys)

abbrev pub lines_of_key : Lines → List (Option ℕ) → Option ℕ → Lines
lines_of_key log keys key = part_of log (places_of keys key)

-- What is asked of the lines of a key.
abbrev pub case_of_key : Lines → List (Option ℕ) → AuditOpts → Option ℕ → Case
case_of_key log keys opts key = case_of (lines_of_key log keys key) opts

-- a log with keys is explained where the lines of each key are
abbrev pub AreExplainedByKey : Lines → List (Option ℕ) → AuditOpts → Type 0
AreExplainedByKey log keys opts = (key : Option ℕ) → AreExplained (case_of_key log keys opts key)

-- ---- their faults, told at the places of the whole log, line by line

abbrev pub told_at : ℕ → Found → Found
told_at k found = record { place = k; fault = found.fault }

-- The faults at a line: those that stand there among the lines of its key.
abbrev pub faults_at_by_key : Lines → List (Option ℕ) → AuditOpts → ℕ → List Found
faults_at_by_key log keys opts k = map (told_at k) (faults_at (case_of_key log keys opts (key_at keys k)) (place_among keys k))

abbrev pub faults_below_by_key : Lines → List (Option ℕ) → AuditOpts → ℕ → List Found
faults_below_by_key log keys opts zero = []
faults_below_by_key log keys opts (suc k) = faults_below_by_key log keys opts k ++ faults_at_by_key log keys opts k

abbrev pub faults_by_key : Lines → List (Option ℕ) → AuditOpts → List Found
faults_by_key log keys opts = faults_below_by_key log keys opts (length log.lines)

-- a fault among the lines of a key, told at its place in the whole log
abbrev pub placed_found : List ℕ → Found → Found
placed_found places found = record { place = slice_index places found.place; fault = found.fault }

-- ---- why they stand: the lines that a reason names are those at their places in the whole log

abbrev pub placed_means : List ℕ → Means → Means
placed_means places Ended = Ended
placed_means places Own = Own
placed_means places (Learnt j) = Learnt (slice_index places j)

abbrev pub placed_by : List ℕ → Option Witness → Option Witness
placed_by places None = None
placed_by places (Some by) = Some (record { place = slice_index places by.place; means = placed_means places by.means })

abbrev pub placed_reason : List ℕ → Reason → Reason
placed_reason places (Known version by) = Known version (placed_by places by)
placed_reason places Unreported = Unreported
placed_reason places (Reported j version by) = Reported (slice_index places j) version (placed_by places by)
placed_reason places (Drawn j) = Drawn (slice_index places j)
placed_reason places Undrawn = Undrawn

abbrev pub placed_late : List ℕ → Option Late → Option Late
placed_late places None = None
placed_late places (Some late) = Some (record { place = slice_index places late.place; by = late.by })

-- a finding among the lines at some places, told of the whole log
abbrev pub placed_finding : List ℕ → Finding → Finding
placed_finding places finding = record {
  found = placed_found places finding.found;
  reason = placed_reason places finding.reason;
  late = placed_late places finding.late;
}

-- A finding has a reason of its fault among the lines of its key, told of the whole log.
abbrev pub HasReasonByKey : Lines → List (Option ℕ) → AuditOpts → Finding → Type 0
HasReasonByKey log keys opts finding =
    let k = finding.found.place in
    (reason : Reason) × IsReason (lines_of_key log keys (key_at keys k)) opts (place_among keys k) finding.found.fault reason
    × (finding.reason ≡ placed_reason (places_of keys (key_at keys k)) reason)

-- and it is said by how much it is late among them
abbrev pub HasLateByKey : Lines → List (Option ℕ) → AuditOpts → Finding → Type 0
HasLateByKey log keys opts finding =
    let k = finding.found.place in
    (late : Option Late) × IsLateAt (lines_of_key log keys (key_at keys k)) opts (place_among keys k) finding.found.fault late
    × (finding.late ≡ placed_late (places_of keys (key_at keys k)) late)
