-- What an audit that watches has seen: the lines that it keeps stand for all. (this product's own)
use Rattle.std.specs.Prelude.{◌≡◌, ◌⊎◌, ◌==◌, ℕ, ◌-◌, ◌<◌, not, cond, All, Bool, List, [], ◌∷◌, ◌++◌, Option, None, Some, length, map, option_map}
use Rattle.fdb_lines.specs.declared.line.Line.{Line}
use Rattle.fdb_lines.specs.declared.fault.Finding.{Finding}
use Rattle.fdb_lines.specs.declared.log.LineError.TheVariants.{Memory, TooMany}
use Rattle.fdb_lines.specs.declared.watch.Watch.{Watch}
use Rattle.fdb_lines.specs.declared.watch.WatchError.{WatchError}
use Rattle.fdb_lines.specs.declared.watch.WatchError.TheVariants.{NoTimes, Line as OfLog}
use Rattle.fdb_lines.specs.Carried.{with_times, StandFor}
use Rattle.fdb_lines.specs.Keys.{placed_finding, placed_found}
use Rattle.fdb_lines.specs.Late.{HasLate, HasLateSince}
use Rattle.fdb_lines.specs.Lines.{Lines, has_times, lines_in}
use Rattle.fdb_lines.specs.Log.{added, lines_of, refusal_of}
use Rattle.fdb_lines.specs.Reasons.{found_of, HasReason}
use Rattle.fdb_lines.specs.Watching.{is_due, opts_of, told_of}

-- from when on it judges lines, also those that come late
abbrev pub judged_from : Watch → ℕ
judged_from watch = watch.from - watch.horizon

pub record HasSeen (watch : Watch) (lines : List Line) : Type 0 where
  pub count : watch.count ≡ length lines
  pub kept : watch.log.lines.items ≡ lines_in lines watch.numbers.items
  pub stand : StandFor watch.margin (judged_from watch) lines watch.numbers.items

-- Why a line is not taken, if it is not, where so many have come and these are kept: the first that holds.
abbrev pub refusal_in : ℕ → Lines → Line → Option WatchError
refusal_in count log line =
    cond (not (has_times line)) (Some NoTimes)
    (cond (count == 18446744073709551615) (Some (OfLog TooMany)) (option_map OfLog (refusal_of log line)))

-- It is refused for that, or, where it would be taken, since memory is refused.
abbrev pub IsRefusedFor : Option WatchError → WatchError → Type 0
IsRefusedFor why error = (why ≡ Some error) ⊎ ((why ≡ None) × (error ≡ OfLog Memory))

-- A line was added: of the lines that are kept it is the last.
pub record IsPushed (line : Line) (old new : Watch) : Type 0 where
  pub ok : (lines : List Line) → HasSeen old lines → HasSeen new (lines ++ line ∷ [])
  pub taken : lines_of new.log ≡ added (lines_of old.log) line
  pub numbers : new.numbers.items ≡ old.numbers.items ++ old.count ∷ []

-- Its lines are as they were.
pub record IsUnchanged (old new : Watch) : Type 0 where
  pub seen : (lines : List Line) → HasSeen old lines → HasSeen new lines
  pub same : (lines_of new.log ≡ lines_of old.log) × (new.count ≡ old.count)
  pub same_numbers : new.numbers.items ≡ old.numbers.items

-- the lines that it tells of when it settles up to a moment, or all: each once, in its window or when it came late
abbrev pub due : Watch → Option ℕ → ℕ → Line → Bool
due watch = is_due watch.from (judged_from watch) watch.settled

-- What is told of all lines, by some that have these numbers among all: of each line that passes a test, each fault with a reason that
-- is true of all, and with how late it is: exactly, or at least, by a line that had ended before what is judged.
pub record AreFindingsDue (margin : ℕ) (test : ℕ → Line → Bool) (judged : ℕ) (lines : List Line) (numbers : List ℕ) (found : List Finding) : Type 0 where
  pub told : map (λ finding. placed_found numbers (found_of finding)) found ≡ told_of margin test lines
  pub reasons : All (λ finding. HasReason (with_times lines) (opts_of margin) (placed_finding numbers finding)) found
  pub late : All (λ finding. HasLateSince judged (with_times lines) (opts_of margin) (placed_finding numbers finding)) found
  pub within : All (λ finding. finding.found.place < length numbers) found

-- What a watch tells of all lines when it settles up to a moment, or for good, by the lines that it keeps. Of these the faults are
-- as `findings` would have them.
pub record IsTold (watch : Watch) (to : Option ℕ) (lines : List Line) (numbers : List ℕ) (found : List Finding) : Type 0 where
  pub tells : AreFindingsDue watch.margin (due watch to) (judged_from watch) lines numbers found
  pub kept : All (λ finding. HasReason (lines_of watch.log) (opts_of watch.margin) finding × HasLate (lines_of watch.log) (opts_of watch.margin) finding) found
