-- What the parts of a follower hold of the lines that were read. (this product's own)
use Rattle.std.specs.Prelude.{◌≡◌, ℕ, ◌+◌, ◌-◌, ◌^◌, ◌++◌, ◌&&◌, Bool, true, false, List, [], All, IfSome, Option, Some, is_some, length, map, min, nat_lt, string_bytes, Result, if◌then◌else◌, ◌∷◌, ◌<◌, ◌≤◌}
use Rattle.std.specs.Option.{option_or}
use Rattle.fdb_lines.specs.declared.fault.Found.{Found}
use Rattle.fdb_lines.specs.declared.key_part.KeyPart.{KeyPart}
use Rattle.fdb_lines.specs.declared.key_part.SettledKey.{SettledKey}
use Rattle.fdb_lines.specs.declared.key_watch.KeyWatch.{KeyWatch}
use Rattle.fdb_lines.specs.declared.line.Line.{Line}
use Rattle.fdb_lines.specs.KeyWatch.{SettledTo, settled_in}
use Rattle.fdb_lines.specs.ToldByKey.{told_by_all}
use Rattle.fdb_log_reader.specs.declared.error.Why.{Why}
use Rattle.fdb_log_reader.specs.ReadLine.{SaidLine}
use Rattle.fdb_log_reader.specs.LineReader.{line_names, lines_on, names_on}
use Rattle.fdb_audit.specs.declared.arguments.AuditArguments.{AuditArguments}
use Rattle.fdb_audit.specs.declared.progress.Carried.{Carried}
use Rattle.fdb_audit.specs.declared.progress.Came.{Came}
use Rattle.fdb_audit.specs.declared.progress.Counts.{Counts}
use Rattle.fdb_audit.specs.declared.follower.Follower.{Follower}
pub use Rattle.fdb_audit.specs.Taken.{AreCounted, AreNumbered, AreTaken, HasCounted, HasTotals, HasTotalsIn, HasWarned, IsCarried, counted_in, counted_of}
use Rattle.std.specs.Int.{is_power_of_two}
use Rattle.fdb_lines.specs.Before.{began}
use Rattle.fdb_audit.specs.declared.taken_lines.Taking.{Taking}
use Rattle.fdb_audit.specs.declared.teller.Teller.{Teller}
use Rattle.fdb_audit.specs.declared.clocks.Clocks.{Clocks}
use Rattle.fdb_audit.specs.declared.clocks.KeyTimes.{KeyTimes}
use Rattle.fdb_audit.specs.declared.refusal.CountedLine.{CountedLine}
use Rattle.fdb_audit.specs.declared.refusal.Warning.{Warning}
use Rattle.fdb_audit.specs.declared.refusal.Warning.TheVariants.{Ahead, Early}
use Rattle.fdb_audit.specs.private.Clocks.{Carries, Hears, ahead_of}
use Rattle.fdb_audit.specs.Warned.{AreEarly, warning_line}
use Rattle.fdb_audit.specs.GoingOn.{GoesOnBy}
use Rattle.fdb_audit.specs.Recent.{KnowsTimes}
use Rattle.fdb_audit.specs.Following.{AreWindows, FollowArguments, KeptBefore, Start, Window, counted_on, early_at, faults_told, first_told, lines_taken, told_in_all}
use Rattle.fdb_audit.specs.ToldFaults.{ToldFault}
use Rattle.fdb_audit.specs.Watched.{HasFollowed, IsTellerOf, lines_asked, names_asked}

-- what was carried, with what is counted behind it
pub record CountsBehind (before : Carried) (taking : Taking) (all : Carried) : Type 0 where
  pub counts : counted_in all.counts all.refused ≡ counted_on (counted_in before.counts before.refused) (counted_of taking)
  pub refused : all.last_refused ≡ option_or taking.refused before.last_refused
  pub last_early : all.counts.last_early ≡ option_or taking.counts.last_early before.counts.last_early

-- no line is open, and nothing is left to be told
pub record IsQuiet (follower : Follower) : Type 0 where
  pub line : lines_on follower.reader [] ≡ []
  pub names : names_on follower.reader [] ≡ line_names follower.reader
  pub text : string_bytes follower.teller.text ≡ []

-- another takes its place, with what it has counted and told, and by when the lines of its keys came
pub record TakesPlace (old next new : Follower) (times : KeyTimes) : Type 0 where
  pub reader : new.reader ≡ next.reader
  pub watch : new.taking.watch ≡ next.taking.watch
  pub numbering : new.taking.numbering ≡ next.taking.numbering
  pub taken : new.taking.taken ≡ next.taking.taken
  pub refused : new.taking.refused ≡ next.taking.refused
  pub counts : new.taking.counts ≡ next.taking.counts
  pub settled : new.taking.settled ≡ next.taking.settled
  pub settlings : new.taking.settlings ≡ next.taking.settlings
  pub clocks : Carries old.taking.clocks next.taking.clocks new.taking.clocks
  pub times_are : new.taking.times ≡ times
  pub teller : new.teller ≡ record next.teller { told = old.teller.told; first = old.teller.first }
  pub behind : new.behind ≡ next.behind
  pub before : CountsBehind old.before old.taking new.before

-- It has gone on from these bytes, of which that was told.
abbrev pub HasGoneOn : AuditArguments → Start → Follower → (bytes told : List ℕ) → Type 0
HasGoneOn asked start follower bytes told =
    (kept : List ℕ) × (next : Start) × GoesOnBy asked start bytes told kept next × HasFollowed asked next follower kept []

-- what stays while a teller tells
pub record IsSameTeller (old new : Teller) : Type 0 where
  pub wanted : new.wanted ≡ old.wanted
  pub margin : new.margin ≡ old.margin
  pub key : new.key ≡ old.key

-- the faults that are told more are counted, where totals are wanted
abbrev pub CountsOn : Teller → Teller → List ToldFault → Type 0
CountsOn old new more = (members : List (List ℕ)) (told : List ToldFault) → HasTotals members old told → HasTotals members new (told ++ more)

-- a part of a watch with this margin, which judges from so far before where it has settled, and has settled no further than to a moment
pub record IsWatchedBy (margin behind : ℕ) (to : Option ℕ) (part : KeyPart) : Type 0 where
  pub its_margin : part.watch.margin ≡ margin
  pub its_horizon : part.watch.horizon ≡ behind
  pub its_from : IfSome to (λ to. part.watch.from ≤ to)

-- A window of these lines, up to a moment, by how far each key had been told of, and these names.
pub record IsWindowOf (behind : ℕ) (read : List (Result SaidLine Why)) (names : List (List ℕ)) (far : Option ℕ → SettledTo) (to : Option ℕ) (window : Window) : Type 0 where
  pub all : window.read ≡ length read
  pub names_are : window.names ≡ names
  pub to_is : window.to ≡ to
  pub from : far window.key ≡ record { to = Some window.from; come = window.since }
  pub early : window.early ≡ window.from - behind
  pub not_before : IfSome to (λ to. window.from ≤ to)

-- each key has settled as far as it had
pub record StaysAsFar (old new : KeyWatch) : Type 0 where
  pub horizon : new.horizon ≡ old.horizon
  pub far : (key : Option ℕ) → settled_in new.parts.items key ≡ settled_in old.parts.items key

-- What is told more, once these lines have been read, whose clients have these names, up to a moment: of each of these keys in a window.
pub record TellsOn (kept : KeptBefore) (old new : Teller) (margin behind : ℕ) (read : List (Result SaidLine Why)) (names : List (List ℕ)) (far : Option ℕ → SettledTo) (to : Option ℕ)
    (entries : List SettledKey) : Type 0 where
  pub windows : List Window
  pub each : All (IsWindowOf behind read names far to) windows
  pub keys : map (λ (window : Window). window.key) windows ≡ map (λ (entry : SettledKey). entry.key) entries
  pub text : List ℕ
  pub told : AreWindows kept margin new.wanted read names windows text
  pub appended : string_bytes new.text ≡ string_bytes old.text ++ text
  pub first : new.first ≡ option_or old.first (first_told kept read windows)
  pub faults_are : told_in_all read windows ≡ told_by_all entries
  pub counts : CountsOn old new (faults_told read windows)
  pub same : IsSameTeller old new

-- a count that may be full, and one more where a test passes
abbrev pub one_more : Bool → ℕ → ℕ
one_more true count = min (count + 1) (2 ^ 64 - 1)
one_more false count = count

-- one line more came, early or not
pub record CameMore (is_early : Bool) (came : Came) (old new : Counts) : Type 0 where
  pub early : new.early ≡ one_more is_early old.early
  pub judged : new.judged ≡ one_more (is_early && came.is_judged) old.judged
  pub last : new.last_early ≡ (if is_early then Some came.line else old.last_early)

abbrev pub counted_line : (line by count : ℕ) → CountedLine
counted_line line by count = record { line = line; by = by; count = count }

-- what is said of a line that is counted, where their number has doubled with it
abbrev pub doubled_text : CountedLine → Warning → List ℕ
doubled_text it warning = if nat_lt 0 it.by && is_power_of_two it.count then warning_line warning else []

-- and where it may have come early, and may be ahead
abbrev pub odd_text : (early ahead : CountedLine) → List ℕ → List ℕ
odd_text early ahead text = (text ++ doubled_text early (Early early)) ++ doubled_text ahead (Ahead ahead)

-- A line more was taken, which is noted, where all was settled up to a moment.
pub record NotesLine (from : ℕ) (old new : Taking) (line : Line) : Type 0 where
  pub its_line : ℕ
  pub judged : Bool
  pub numbering : new.numbering ≡ old.numbering
  pub count : new.taken ≡ old.taken + 1
  pub refused : new.refused ≡ old.refused
  pub settled : new.settled ≡ old.settled
  pub settlings : new.settlings ≡ old.settlings
  pub hears : Hears old.clocks new.clocks line
  pub counted : (lines : List Line) → length lines + 1 < 2 ^ 64 → AreCounted old.counts lines → AreCounted new.counts (lines ++ line ∷ [])
  pub is_its : its_line ≡ min (new.taken + new.numbering.more + length new.numbering.above.items) (2 ^ 64 - 1)
  pub came : CameMore (nat_lt (began line) from) (record { line = its_line; is_judged = judged }) old.counts new.counts
  pub ahead : new.counts.ahead ≡ one_more (nat_lt 0 (ahead_of old.clocks line)) old.counts.ahead
  pub warned : string_bytes new.warnings ≡ odd_text (counted_line its_line (from - began line) new.counts.early)
      (counted_line its_line (ahead_of old.clocks line) new.counts.ahead) (string_bytes old.warnings)

-- it is noted that it has settled
pub record HasNoted (old new : Taking) : Type 0 where
  pub watch : new.watch ≡ old.watch
  pub numbering : new.numbering ≡ old.numbering
  pub taken : new.taken ≡ old.taken
  pub refused : new.refused ≡ old.refused
  pub counts : new.counts ≡ old.counts
  pub clocks : new.clocks ≡ old.clocks
  pub warnings : new.warnings ≡ old.warnings
  pub settled : new.settled ≡ old.taken
  pub settlings : new.settlings.at ≡ old.taken ∷ old.settlings.at
  pub times : new.times ≡ old.times

-- From where it is followed on that has settled up to a moment, by when this had been told of what was read: what comes then is
-- counted anew.
abbrev pub settled_at : Start → Clocks → ℕ → List (Result SaidLine Why) → List Found → Start
settled_at start clocks at read told = record start {
  clocks = record start.clocks { believed = clocks.believed; ahead = clocks.ahead };
  from = at;
  lines = length read;
  early = 0;
  told = told;
}

-- These lines more are taken or left out, behind those that were read.
pub record TakesOn (old new : Taking) (more : List (Result SaidLine Why)) : Type 0 where
  pub taken : (start : Start) (read : List (Result SaidLine Why)) (told : List Found) → AreTaken start old read told → AreTaken start new (read ++ more) told
  pub warned : (start : Start) (read : List (Result SaidLine Why)) (told : List Found) (warned : List ℕ) → AreTaken start old read told → HasWarned start old read warned
      → HasWarned start new (read ++ more) warned
  pub times : (forget : Option ℕ) (start : Start) (read : List (Result SaidLine Why)) (told : List Found) → AreTaken start old read told → KnowsTimes forget start old.times read
      → KnowsTimes forget start new.times (read ++ more)
  pub early : new.counts.early ≤ old.counts.early + early_at old.watch.from (lines_taken more)
  pub stays : StaysAsFar old.watch new.watch

-- and this stays, also where memory is refused
pub record StaysBeside (old new : Taking) : Type 0 where
  pub from : new.watch.from ≡ old.watch.from
  pub margin : new.watch.margin ≡ old.watch.margin
  pub settlings : new.settlings ≡ old.settlings
  pub wanted : new.times.are_wanted ≡ old.times.are_wanted

-- by which arguments what is told is told
abbrev pub told_with : ℕ → Teller → List (List ℕ) → FollowArguments
told_with behind teller members = record { behind = behind; margin = teller.margin; by_key = is_some teller.key; members = members }

-- how lines came, by the counts
abbrev pub AreEarlyIn : Start → List (Result SaidLine Why) → List ℕ → Counts → Type 0
AreEarlyIn start read settled counts = AreEarly start read settled counts.early counts.judged counts.last_early

-- The lines that were taken have settled further; nothing was said of them.
pub record SettlesOn (old new : Taking) : Type 0 where
  pub taken : (start : Start) (read : List (Result SaidLine Why)) (told : List Found) → AreTaken start old read told
      → (more : List Found) × AreTaken start new read (told ++ more)
  pub said : (start : Start) (read : List (Result SaidLine Why)) (told : List Found) (warned : List ℕ) → AreTaken start old read told → HasWarned start old read warned
      → HasWarned start new read warned
  pub warnings : new.warnings ≡ old.warnings
  pub counts : new.counts ≡ old.counts

-- all is said of them
pub record SaysNext (old new : Taking) : Type 0 where
  pub taken : (start : Start) (read : List (Result SaidLine Why)) (told : List Found) → AreTaken start old read told → AreTaken start new read told
  pub warnings : string_bytes new.warnings ≡ []
  pub settlings : new.settlings ≡ old.settlings
  pub counts : new.counts ≡ old.counts

-- nothing has been read
pub record IsUnread (asked : AuditArguments) (start : Start) (follower : Follower) : Type 0 where
  pub goes : (text : List ℕ) → lines_asked asked text ≡ lines_on follower.reader text
  pub names : (text : List ℕ) → names_asked asked text ≡ names_on follower.reader text
  pub at : follower.behind ≡ start.behind
  pub carried : IsCarried start.before follower.before
  pub taken : AreTaken start follower.taking [] start.told
  pub warned : HasWarned start follower.taking [] []
  pub margin : follower.taking.watch.margin ≡ asked.opts.margin
  pub horizon : follower.taking.watch.horizon ≡ start.behind
  pub far : (key : Option ℕ) → settled_in follower.taking.watch.parts.items key ≡ start.far key
  pub text : string_bytes follower.teller.text ≡ []
  pub are : IsTellerOf asked start follower.teller [] []
  pub times : follower.taking.times.are_wanted ≡ is_some asked.forget
