-- What C asks of a watch, what a watch is, and what it has told. (this product's own)
use Rattle.std.specs.Prelude.{◌≡◌, ◌≢◌, ◌⊎◌, ◌↔◌, ℕ, ◌++◌, Bool, true, false, List, [], Option, None, Some, option_map, string_bytes}
use Rattle.core.specs.Str.{IsUtf8}
use Rattle.fdb_lines.specs.declared.log.AuditOpts.{AuditOpts}
use Rattle.fdb_log_reader.specs.LineReader.{line_names}
use Rattle.fdb_log_reader.specs.declared.error.ReadError.{ReadError}
use Rattle.fdb_log_reader.specs.declared.error.Why.{Why}
use Rattle.fdb_audit.specs.Following.{Counted, IsCounted, Start, fresh, left_out, sum_of}
use Rattle.fdb_audit.specs.Kept.{Keeps, start_of}
use Rattle.fdb_audit.specs.Taken.{counted_of}
use Rattle.fdb_audit.specs.Watched.{HasFollowed, HasSaid, HasSaidAll, IsFollowed, lines_asked}
use Rattle.fdb_audit.specs.declared.arguments.AuditArguments.{AuditArguments}
use Rattle.fdb_audit.specs.declared.printer.LogFault.{LogFault}
use Rattle.fdb_audit.specs.declared.follower.Follower.{Follower}
use Rattle.fdb_audit.specs.declared.judgement.Wanted.{Wanted}
use Rattle.fdb_audit.specs.declared.refusal.KeptRefused.{KeptRefused}
use Rattle.fdb_c.specs.Audit.{Asked, HasNoRoom, IsRefusal, IsToldWhy, IsWritten, asked_in, member_of, status_of}
use Rattle.fdb_c.specs.declared.audit.FdbRefused.{FdbRefused}
use Rattle.fdb_c.specs.declared.status.TheConstants.{FDB_OK, FDB_MEMORY, FDB_ROOM, FDB_FAULT, FDB_BAD_MEMBER, FDB_OVER, FDB_UNJUDGED, FDB_NOT_KEPT}
use Rattle.fdb_c.specs.declared.watch_options.FdbWatchCounted.{FdbWatchCounted}
use Rattle.fdb_c.specs.declared.watch_options.FdbWatchOptions.{FdbWatchOptions}

-- ---- what is asked

abbrev pub opts_in : FdbWatchOptions → AuditOpts
opts_in options = record { complete = None; margin = options.margin }

-- all faults are told
abbrev pub wanted_in : FdbWatchOptions → Wanted
wanted_in options = record { history = false; all = true; totals = options.totals; json = options.json }

-- ---- what a watch is

-- What it was asked for, how far behind the newest end a line may begin, and by which text of kept lines it goes on, if it does;
-- the bytes that have come, behind that text; the text that was told of them, and all warnings; what was said last with its warnings;
-- and whether it is over: its log has ended, or memory was refused.
pub record Watch : Type 0 where
  pub asked : Asked
  pub behind : ℕ
  pub from : Option (List ℕ)
  pub bytes : List ℕ
  pub told : List ℕ
  pub warned : List ℕ
  pub text : List ℕ
  pub warnings : List ℕ
  pub is_over : Bool

-- nothing has come but these bytes
abbrev pub watch_from : Asked → ℕ → Option (List ℕ) → List ℕ → Watch
watch_from asked behind from bytes = record {
  asked = asked;
  behind = behind;
  from = from;
  bytes = bytes;
  told = [];
  warned = [];
  text = [];
  warnings = [];
  is_over = false;
}

abbrev pub new_watch : Asked → ℕ → Watch
new_watch asked behind = watch_from asked behind None []

-- it goes on by a text of kept lines
abbrev pub restored : Asked → ℕ → List ℕ → Watch
restored asked behind text = watch_from asked behind (Some text) text

-- more bytes have come
abbrev pub with_bytes : Watch → List ℕ → Watch
with_bytes watch bytes = record watch { bytes = watch.bytes ++ bytes }

-- nothing can come any more
abbrev pub over : Watch → Watch
over watch = record watch { is_over = true }

-- What was said last was told besides.
abbrev pub IsToldBesides : Watch → Watch → Type 0
IsToldBesides before after =
    after ≡ record before {
      told = before.told ++ after.text;
      warned = before.warned ++ after.warnings;
      text = after.text;
      warnings = after.warnings;
      is_over = after.is_over;
    }

-- from where a log is followed: from its beginning, or on by a text of kept lines
abbrev pub started : AuditArguments → ℕ → Option (List ℕ) → Start
started arguments behind None = fresh behind
started arguments behind (Some text) = start_of arguments behind text

abbrev pub start_in : AuditArguments → Watch → Start
start_in arguments watch = started arguments watch.behind watch.from

-- ---- what it has told

-- why a part of the log is refused, if it is: the last line that is, or that there is none
abbrev pub refused_in : AuditArguments → Watch → Option ReadError
refused_in arguments watch = left_out (start_in arguments watch) (lines_asked arguments watch.bytes)

-- This was told of the bytes that have come, and these warnings were, as by an audit that follows the log.
pub record HasTold (watch : Watch) : Type 0 where
  pub arguments : AuditArguments
  pub are : asked_in arguments ≡ watch.asked
  pub follower : Follower
  pub followed : HasFollowed arguments (start_in arguments watch) follower watch.bytes watch.told
  pub said : HasSaid arguments (start_in arguments watch) follower watch.bytes watch.warned

-- It was told of all of them, where the log ends there, with these warnings, this first fault, and the last line that came early, if
-- one did.
pub record HasToldAll (watch : Watch) (first : Option LogFault) (last_early : Option ℕ) : Type 0 where
  pub arguments : AuditArguments
  pub are : asked_in arguments ≡ watch.asked
  pub followed : IsFollowed arguments (start_in arguments watch) true watch.bytes watch.told first last_early
  pub said : HasSaidAll arguments (start_in arguments watch) watch.bytes followed.settled watch.warned

-- A fault was told among that.
pub record HasToldFault (watch : Watch) : Type 0 where
  pub first : LogFault
  pub last_early : Option ℕ
  pub all : HasToldAll watch (Some first) last_early

-- Each line was taken, and there was one.
pub record HasTakenAll (watch : Watch) : Type 0 where
  pub arguments : AuditArguments
  pub are : asked_in arguments ≡ watch.asked
  pub taken : refused_in arguments watch ≡ None

-- Lines were left out, the last of them for this, or there was none.
pub record HasLeftOut (watch : Watch) (error : ReadError) : Type 0 where
  pub arguments : AuditArguments
  pub are : asked_in arguments ≡ watch.asked
  pub refused : refused_in arguments watch ≡ Some error

-- The last line that came early, as C is told of it where not all was judged.
abbrev pub unjudged_at : ℕ → FdbRefused
unjudged_at line = record { line = line; member = 0 }

-- ---- what it keeps, and how much has come

-- A text keeps the lines that may yet come to matter, of these bytes of which that was told, with these warnings.
pub record IsKeptOf (asked : Asked) (behind : ℕ) (from : Option (List ℕ)) (bytes told warned kept : List ℕ) : Type 0 where
  pub arguments : AuditArguments
  pub are : asked_in arguments ≡ asked
  pub follower : Follower
  pub followed : HasFollowed arguments (started arguments behind from) follower bytes told
  pub said : HasSaid arguments (started arguments behind from) follower bytes warned
  pub keeps : Keeps (option_map string_bytes arguments.key) (line_names follower.reader) (started arguments behind from).kept
      follower.taking followed.read kept

abbrev pub IsKept : Watch → List ℕ → Type 0
IsKept watch kept = IsKeptOf watch.asked watch.behind watch.from watch.bytes watch.told watch.warned kept

-- how much had come, of what C is told
abbrev pub counted_in : FdbWatchCounted → Counted
counted_in counts = record {
  lines = counts.lines;
  reads = counts.reads;
  commits = counts.commits;
  asks = counts.asks;
  reports = counts.reports;
  refused = counts.refused;
  early = counts.early;
  judged = counts.judged;
  ahead = counts.ahead;
}

-- So much has come, and so far it was told: to the newest end that is believed, and up to where all was told.
pub record HasCounted (watch : Watch) (counts : FdbWatchCounted) : Type 0 where
  pub arguments : AuditArguments
  pub are : asked_in arguments ≡ watch.asked
  pub follower : Follower
  pub followed : HasFollowed arguments (start_in arguments watch) follower watch.bytes watch.told
  pub said : HasSaid arguments (start_in arguments watch) follower watch.bytes watch.warned
  pub counted : IsCounted (start_in arguments watch) followed.read (counted_in counts)
  pub came : counted_in counts ≡ counted_of follower.taking
  pub kept : counts.kept ≡ follower.taking.kept
  pub unjudged : counts.«open» ≡ sum_of follower.taking.unsettled.unjudged follower.taking.unsettled.came
  pub newest : counts.newest_end ≡ follower.taking.clocks.believed
  pub settled : counts.settled_to ≡ follower.taking.watch.from

-- ---- why a text of kept lines is refused

-- why, if it is known what is wrong with a line; else it does not say as what it was kept
abbrev pub status_of_why : Option Why → ℕ
status_of_why None = FDB_NOT_KEPT
status_of_why (Some why) = status_of why

abbrev pub member_of_why : Option Why → ℕ
member_of_why None = 0
member_of_why (Some why) = member_of why

-- A refusal, as C is told of it beside its status: the line of that text, counted from 1.
abbrev pub kept_refused : KeptRefused → FdbRefused
kept_refused it = record { line = it.line; member = member_of_why it.why }

-- and where no line is at fault
abbrev pub no_line : FdbRefused
no_line = record { line = 0; member = 0 }

-- ---- what its calls tell

-- The watch goes on, or it is over now: memory was refused, or it was over before.
pub record GoesOnOrEnds (before after : Watch) (status : ℕ) : Type 0 where
  pub ends : status ≢ FDB_OK → after ≡ over before
  pub over : (status ≡ FDB_OVER) ↔ (before.is_over ≡ true)
  pub statuses : (status ≡ FDB_OK) ⊎ (status ≡ FDB_OVER) ⊎ (status ≡ FDB_MEMORY)

-- The log has ended, and the rest of it was told; or memory was refused, or the watch was over.
pub record IsWatchEnded (before after : Watch) (status : ℕ) : Type 0 where
  pub said : status ≢ FDB_OVER → status ≢ FDB_MEMORY → IsToldBesides before after
  pub memory : status ≡ FDB_MEMORY → (after ≡ over before) ⊎ IsToldBesides before after
  pub unchanged : status ≡ FDB_OVER → after ≡ before
  pub ends : after.is_over ≡ true

-- What was told of all of it: a fault, or else a line was left out, or else lines came early, or
-- none of these.
pub record IsWatchVerdict (watch : Watch) (refused : FdbRefused) (status : ℕ) : Type 0 where
  pub ok : status ≡ FDB_OK → HasToldAll watch None None × HasTakenAll watch
  pub unjudged : status ≡ FDB_UNJUDGED
      → HasTakenAll watch × (line : ℕ) × HasToldAll watch None (Some line) × (refused ≡ unjudged_at line)
  pub fault : status ≡ FDB_FAULT → HasToldFault watch
  pub left_out : IsRefusal status → status ≢ FDB_OVER
      → (last_early : Option ℕ) × HasToldAll watch None last_early × IsToldWhy (HasLeftOut watch) refused status

-- What a watch keeps was written, or there is no room for it, or nothing was.
pub record IsKeptGiven (watch : Watch) (before after : List ℕ) (size_before size_after status : ℕ) : Type 0 where
  pub ok : status ≡ FDB_OK → (kept : List ℕ) × IsKept watch kept × IsWritten kept before after size_after
  pub room : status ≡ FDB_ROOM → (kept : List ℕ) × IsKept watch kept × HasNoRoom kept before after size_after
  pub over : (status ≡ FDB_OVER) ↔ (watch.is_over ≡ true)
  pub untold : status ≢ FDB_OK → status ≢ FDB_ROOM → (after ≡ before) × (size_after ≡ size_before)
  pub statuses : (status ≡ FDB_OK) ⊎ (status ≡ FDB_ROOM) ⊎ (status ≡ FDB_NOT_KEPT) ⊎ (status ≡ FDB_OVER) ⊎ (status ≡ FDB_MEMORY)

-- Why a text of kept lines is refused is told: for names of members that are no texts, or for one
-- of its lines.
pub record IsKeptRefused (key shown : List ℕ) (before after : FdbRefused) (status : ℕ) : Type 0 where
  pub names : ¬ (IsUtf8 key × IsUtf8 shown) → (status ≡ FDB_BAD_MEMBER) × (after ≡ no_line)
  pub why : IsRefusal status → IsUtf8 key × IsUtf8 shown
      → (it : KeptRefused) × (status ≡ status_of_why it.why) × (after ≡ kept_refused it)
  pub untold : ¬ IsRefusal status → after ≡ before
