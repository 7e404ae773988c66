-- What is said on standard error of a log that is followed. (this product's own)
use Rattle.std.specs.Prelude.{◌≡◌, ℕ, ◌+◌, ◌≤◌, ◌++◌, List, [], ◌∷◌, Option, None, Some, Result, Ok, Err, codes, decimal, drop, length, option_map, string_bytes}
use Rattle.std.specs.List.{filter, filter_map, flat_map}
use Rattle.std.specs.Int.{is_power_of_two}
use Rattle.fdb_log_reader.specs.declared.error.ReadError.{ReadError}
use Rattle.fdb_log_reader.specs.declared.error.Why.{Why}
use Rattle.fdb_log_reader.specs.declared.error.Why.TheVariants.{Empty, TooLong, TooMany, NotJson, NoCall, TwoCalls, SomeTimes, BadMember, BadKey, BadNumber, Memory}
use Rattle.fdb_log_reader.specs.declared.member.Member.TheVariants.{Client, Read, Commit, Ask, Report, Learn, Began, Ended}
use Rattle.fdb_log_reader.specs.ReadLine.{SaidLine}
use Rattle.fdb_log_reader.specs.Text.{error_text}
use Rattle.fdb_audit.specs.declared.refusal.KeptFault.{KeptFault}
use Rattle.fdb_audit.specs.declared.refusal.KeptRefused.{KeptRefused}
use Rattle.fdb_audit.specs.declared.refusal.LogsRefused.{LogsRefused}
use Rattle.fdb_audit.specs.declared.refusal.LogsRefused.TheVariants.{Early, Kept, Log}
use Rattle.fdb_audit.specs.declared.refusal.CountedLine.{CountedLine}
use Rattle.fdb_audit.specs.declared.refusal.Warning.{Warning}
use Rattle.fdb_audit.specs.declared.refusal.Warning.TheVariants.{Refused, Ahead}
use Rattle.fdb_audit.specs.declared.refusal.Warning.TheVariants.{Early as Of_early}
use Rattle.fdb_audit.specs.Following.{Start}
use Rattle.fdb_audit.specs.Came.{ahead_lines, early_lines, last_line}
use Rattle.fdb_audit.specs.Text.{line}

-- ---- why a line, or what was kept, is refused

-- what is wrong with a line, for people
abbrev pub cause_text : Why → List ℕ
cause_text Empty = codes "no line"
cause_text TooLong = codes "more than 1048576 bytes"
cause_text TooMany = codes "more than 4294967295 lines"
cause_text NotJson = codes "no JSON"
cause_text NoCall = codes "no read, commit, ask, report or learn"
cause_text TwoCalls = codes "more than one of read, commit, ask, report and learn"
cause_text SomeTimes = codes "began and ended stand in all lines or in none"
cause_text (BadMember Client) = codes "no name, or none in a log without times"
cause_text (BadMember Read) = codes "no whole number below 2^64"
cause_text (BadMember Commit) = codes "no whole number below 2^64"
cause_text (BadMember Ask) = codes "no whole number below 2^64"
cause_text (BadMember Report) = codes "no whole number below 2^64"
cause_text (BadMember Learn) = codes "no client of a line above, or beside times"
cause_text (BadMember Began) = codes "no whole number below 2^64, or none beside ended"
cause_text (BadMember Ended) = codes "no whole number below 2^64 and not null, or before began"
cause_text BadKey = codes "no name"
cause_text BadNumber = codes "no whole number below 2^64, or not above that of the line before"
cause_text Memory = codes "out of memory"

abbrev pub caused_text : ReadError → List ℕ
caused_text error = error_text error ++ codes ": " ++ cause_text error.why

abbrev pub kept_refusal : ℕ → Option Why → List ℕ
kept_refusal line (Some why) = caused_text (record { line = line; why = why })
kept_refusal line None = codes "NotKept " ++ decimal line ++ codes ": no line as it is kept"

abbrev pub kept_refused_text : KeptRefused → List ℕ
kept_refused_text refused = codes "kept lines refused: " ++ kept_refusal refused.line refused.why

-- where they are kept, and by which arguments, if that is said
abbrev pub kept_in : List ℕ → Option (List ℕ) → List ℕ
kept_in file None = 10 ∷ codes "fdb_audit: kept in " ++ file
kept_in file (Some words) = 10 ∷ codes "fdb_audit: kept in " ++ file ++ codes " by " ++ words

abbrev pub kept_fault_text : KeptFault → List ℕ
kept_fault_text fault = kept_refused_text fault.refused ++ kept_in (string_bytes fault.file) (option_map string_bytes fault.made_by)

abbrev pub refused_text : LogsRefused → List ℕ
refused_text (Log error) = codes "logs refused: " ++ caused_text error
refused_text (Early line) = codes "logs refused: Early " ++ decimal line ++ codes ": it began before what had been settled"
refused_text (Kept fault) = kept_fault_text fault

-- ---- what is said of lines

-- a number between two texts
abbrev pub counted : List ℕ → ℕ → List ℕ → List ℕ
counted before number after = before ++ decimal number ++ after

-- a line of standard error, behind the program's name
abbrev pub warning_line : Warning → List ℕ
warning_line (Refused error) = line (codes "fdb_audit: " ++ refused_text (Log error))
warning_line (Of_early it) =
    counted (codes "fdb_audit: early line ") it.line (codes ": it began ") ++ counted [] it.by (codes " before what had been settled; ")
    ++ counted [] it.count (line (codes " so far: --follow is too small, or a clock is ahead"))
warning_line (Ahead it) =
    counted (codes "fdb_audit: a clock is ahead: above line ") it.line (codes " a line of another client ended ") ++ counted [] it.by (codes " after it; ")
    ++ counted [] it.count (line (codes " so far: it is not believed"))

-- the lines that are refused, and why, where the first of all is this one
abbrev pub all_refused : ℕ → List (Result SaidLine Why) → List ReadError
all_refused line [] = []
all_refused line (Ok said ∷ read) = all_refused (line + 1) read
all_refused line (Err why ∷ read) = record { line = line; why = why } ∷ all_refused (line + 1) read

-- of what is said of a line: why it is refused; or that it came early, or is ahead
abbrev pub as_refused : Warning → Option ReadError
as_refused (Refused error) = Some error
as_refused (Of_early it) = None
as_refused (Ahead it) = None

abbrev pub as_early : Warning → Option CountedLine
as_early (Refused error) = None
as_early (Of_early it) = Some it
as_early (Ahead it) = None

abbrev pub as_ahead : Warning → Option CountedLine
as_ahead (Refused error) = None
as_ahead (Of_early it) = None
as_ahead (Ahead it) = Some it

-- How many lines came early of those that came since, how many of these were judged, and the last, where it settled when so many had
-- been taken.
pub record AreEarly (start : Start) (read : List (Result SaidLine Why)) (settled : List ℕ) (early judged : ℕ) (last : Option ℕ) : Type 0 where
  pub count : early ≡ length (early_lines start read settled)
  pub few : judged ≤ early
  pub last_is : last ≡ last_line None (early_lines start read settled)

-- of lines that are counted the first, second, fourth and so on are told
abbrev pub doubled : List CountedLine → List CountedLine
doubled lines = filter (λ (it : CountedLine). is_power_of_two it.count) lines

-- What is said of the lines that came since: of each that is refused, in their order; and of the first, second, fourth and so on that
-- came early, or of which others were ahead, with how long before what had been told it began, or by how much they were.
pub record AreWarnings (start : Start) (read : List (Result SaidLine Why)) (settled : List ℕ) (warnings : List Warning) : Type 0 where
  pub refused : filter_map as_refused warnings ≡ all_refused (start.kept.more + start.lines + 1) (drop start.lines read)
  pub early_are : filter_map as_early warnings ≡ doubled (early_lines start read settled)
  pub ahead_are : filter_map as_ahead warnings ≡ doubled (ahead_lines start read)

-- and this is their text
abbrev pub IsSaid : Start → List (Result SaidLine Why) → (settled : List ℕ) → List ℕ → Type 0
IsSaid start read settled text = (warnings : List Warning) × AreWarnings start read settled warnings × (text ≡ flat_map warning_line warnings)
