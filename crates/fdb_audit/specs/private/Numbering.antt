-- Where the lines that were taken stand among all. (this product's own)
use Rattle.std.specs.Prelude.{◌≡◌, ℕ, ◌+◌, ◌<◌, ◌≤◌, ◌^◌, List, All, length, map, Result}
use Rattle.fdb_log_reader.specs.declared.error.Why.{Why}
use Rattle.fdb_log_reader.specs.ReadLine.{SaidLine}
pub use Rattle.fdb_audit.specs.Taken.{kept_by}
use Rattle.fdb_audit.specs.Following.{KeptBefore, taken_line, taken, taken_above}

-- Where lines stand among all, counted from 1, by how many were taken above each, where so many were taken above each that was refused.
abbrev pub AreTakenLines : KeptBefore → List ℕ → List ℕ → List ℕ → Type 0
AreTakenLines kept above places lines =
    (read : List (Result SaidLine Why)) → above ≡ taken_above 0 read → length read + kept.more + 1 < 2 ^ 64
    → All (λ place. place ≤ length (taken read)) places → lines ≡ map (taken_line kept read) places
