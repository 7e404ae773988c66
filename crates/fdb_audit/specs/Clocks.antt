-- How far the ends of a log's lines are believed: one clock that is ahead moves nothing. (this product's own)
use Rattle.std.specs.Prelude.{ℕ, ◌+◌, ◌-◌, ◌^◌, ◌++◌, ◌&&◌, Bool, false, List, [], ◌∷◌, Option, None, Some, cond, is_some, max, min, nat_lt, not, unwrap_or, if◌then◌else◌}
use Rattle.fdb_lines.specs.declared.line.Line.{Line}
use Rattle.fdb_lines.specs.Before.{began, ended}
use Rattle.fdb_lines.specs.Lines.{same_client}

-- What is known of the clocks of lines that came before others: as far as ends are believed; the newest end; whether lines of more
-- than one client had come, so that none vouches for itself; and the newest end that was found to be ahead.
pub record ClocksBefore : Type 0 where
  pub believed : ℕ
  pub newest : ℕ
  pub many : Bool
  pub ahead : ℕ

abbrev pub no_clocks : ClocksBefore
no_clocks = record { believed = 0; newest = 0; many = false; ahead = 0 }

-- how far ends were believed where all was told up to a moment
abbrev pub believed_from : (settled behind : ℕ) → ℕ
believed_from settled behind = if nat_lt 0 settled then min (settled + behind) (2 ^ 64 - 1) else 0

-- when a line ended, 0 where that is not known
abbrev pub end_of : Line → ℕ
end_of line = unwrap_or (ended line) 0

-- the newest end of some lines, or of what was before
abbrev pub newest_end : ℕ → List Line → ℕ
newest_end newest [] = newest
newest_end newest (line ∷ lines) = newest_end (max newest (end_of line)) lines

-- ---- what others say of an end

-- the newer of two ends, of which either may be known
abbrev pub newer : Option ℕ → Option ℕ → Option ℕ
newer None other = other
newer (Some one) None = Some one
newer (Some one) (Some other) = Some (max one other)

-- when a line ended, if it is known to be of another client than this one
abbrev pub end_of_another : Option ℕ → Line → Option ℕ
end_of_another client line = if is_some line.client && not (same_client line.client client) then ended line else None

-- the newest end of the lines of other clients, if one is known
abbrev pub others_end : Option ℕ → List Line → Option ℕ
others_end client [] = None
others_end client (line ∷ lines) = newer (end_of_another client line) (others_end client lines)

-- and where lines of more than one client had come before, it is 0 at least
abbrev pub floor_of : Bool → Option ℕ
floor_of many = if many then Some 0 else None

abbrev pub others_known : ClocksBefore → Option ℕ → List Line → Option ℕ
others_known before client above = newer (floor_of before.many) (others_end client above)

-- How far the lines above vouch for a client's clock: as far as those of others do, and where no end of another is known, all.
abbrev pub vouched : ClocksBefore → Option ℕ → List Line → ℕ
vouched before client above = unwrap_or (others_known before client above) (newest_end before.newest above)

-- ---- one line after another

-- what is made of some lines as they come, each by what was made of those above it, where others stand above all
abbrev pub fold_lines : {S : Type 0} → (S → List Line → Line → S) → S → (above lines : List Line) → S
fold_lines step state above [] = state
fold_lines step state above (line ∷ lines) = fold_lines step (step state above line) (above ++ line ∷ []) lines

-- and how many of them pass a test when they come
abbrev pub count_lines : {S : Type 0} → (S → List Line → Line → S) → (S → List Line → Line → Bool) → S → (above lines : List Line) → ℕ
count_lines step test state above [] = 0
count_lines step test state above (line ∷ lines) = cond (test state above line) 1 0 + count_lines step test (step state above line) (above ++ line ∷ []) lines

-- ---- what is believed

-- what is known when a line comes: as far as ends were believed, and as far as the lines above vouch for it
abbrev pub reached : ClocksBefore → ℕ → List Line → Line → ℕ
reached before believed above line = max believed (vouched before line.client above)

-- The newest end that is believed with one line more: its own, where that is at most so far ahead of what is known, and else what is
-- known.
abbrev pub believed_with : ClocksBefore → ℕ → ℕ → List Line → Line → ℕ
believed_with before behind believed above line =
    let known = reached before believed above line in if nat_lt (known + behind) (end_of line) then known else max believed (end_of line)

-- and with all of some lines, which come behind those above
abbrev pub believed_end : ClocksBefore → ℕ → (above lines : List Line) → ℕ
believed_end before behind above lines = fold_lines (believed_with before behind) before.believed above lines

-- Up to when all may be told, where it was up to a moment: so far behind the newest end that is believed, if that is later.
abbrev pub certain_to : (from behind believed : ℕ) → ℕ
certain_to from behind believed = max from (believed - behind)

-- how many began before that up to which all might be told when they came
abbrev pub out_of_reach : ClocksBefore → (from behind : ℕ) → (above lines : List Line) → ℕ
out_of_reach before from behind above lines =
    count_lines (believed_with before behind) (λ believed above line. nat_lt (began line) (certain_to from behind believed)) before.believed above lines

-- ---- what is ahead

-- By how much others are ahead of a line's end, where that is more than so far, and newer than what was found to be before; else 0.
abbrev pub ahead_of_end : ℕ → ℕ → ℕ → Option ℕ → ℕ
ahead_of_end behind before others None = 0
ahead_of_end behind before others (Some end) = if nat_lt before others && nat_lt (end + behind) others then others - end else 0

-- the newest end of others when a line comes; 0 where none is known
abbrev pub others_then : ClocksBefore → List Line → Line → ℕ
others_then before above line = unwrap_or (others_known before line.client above) 0

abbrev pub ahead_by : ClocksBefore → ℕ → ℕ → List Line → Line → ℕ
ahead_by before behind ahead above line = ahead_of_end behind ahead (others_then before above line) (ended line)

-- the newest end that was found to be ahead, with one line more
abbrev pub ahead_with : ClocksBefore → ℕ → ℕ → List Line → Line → ℕ
ahead_with before behind ahead above line = if nat_lt 0 (ahead_by before behind ahead above line) then others_then before above line else ahead

-- and with all of some lines
abbrev pub ahead_end : ClocksBefore → ℕ → (above lines : List Line) → ℕ
ahead_end before behind above lines = fold_lines (ahead_with before behind) before.ahead above lines
