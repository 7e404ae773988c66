-- When the lines of keys came, by what was believed then. (this product's own)
use Rattle.std.specs.Prelude.{◌≡◌, ℕ, ◌+◌, ◌≤◌, true, List, MatchOption, Option, Some, Result, drop, is_some, slice_get, take}
use Rattle.fdb_log_reader.specs.declared.error.Why.{Why}
use Rattle.fdb_log_reader.specs.ReadLine.{SaidLine}
use Rattle.fdb_audit.specs.declared.clocks.KeyTimes.{KeyTimes}
use Rattle.fdb_audit.specs.Clocks.{believed_end}
use Rattle.fdb_audit.specs.Following.{Start, keys_taken, lines_before, lines_since}

-- the keys of the lines that were taken of those that came since
abbrev pub keys_since : Start → List (Result SaidLine Why) → List (Option ℕ)
keys_since start read = keys_taken (drop start.lines read)

-- the newest end that was believed once so many of these lines had come
abbrev pub believed_by : Start → List (Result SaidLine Why) → ℕ → ℕ
believed_by start read count = believed_end start.clocks start.behind (lines_before start read) (take count (lines_since start read))

-- and that is believed now
abbrev pub believed_now : Start → List (Result SaidLine Why) → ℕ
believed_now start read = believed_end start.clocks start.behind (lines_before start read) (lines_since start read)

-- Where keys may be forgotten, it is known of each key of these lines that its last line came when no less was believed than with any
-- of them.
pub record KnowsTimes (forget : Option ℕ) (start : Start) (times : KeyTimes) (read : List (Result SaidLine Why)) : Type 0 where
  pub wanted : times.are_wanted ≡ is_some forget
  pub seen : is_some forget ≡ true → (place key : ℕ) → slice_get (keys_since start read) place ≡ Some (Some key)
      → MatchOption (slice_get times.last.items key) ⊥ (λ last. believed_by start read (place + 1) ≤ last.seen)
