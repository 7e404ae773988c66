-- What is told of a log that is followed as it grows. (this product's own)
use Rattle.std.specs.Prelude.{◌≡◌, ◌⊎◌, ◌==◌, ℕ, zero, suc, ◌+◌, ◌-◌, ◌^◌, ◌<◌, ◌≤◌, ◌||◌, nat_le, not, Bool, true, false, List, [], ◌∷◌, ◌++◌, All, IfSome, ⊤, Option, None, Some, codes, count_by, drop, length, map, min, nat_lt, option_map, slice_get, slice_index, take, unwrap_or, Result, Ok, Err, if◌then◌else◌}
use Rattle.std.specs.List.{flat_map}
use Rattle.std.specs.Option.{option_eq, option_or}
use Rattle.fdb_lines.specs.declared.fault.Found.{Found}
use Rattle.fdb_lines.specs.declared.line.Line.{Line}
use Rattle.fdb_lines.specs.declared.fault.Finding.{Finding}
use Rattle.fdb_lines.specs.Before.{began}
use Rattle.fdb_lines.specs.KeyParts.{lines_of_one}
use Rattle.fdb_lines.specs.KeyWatch.{SettledTo, not_settled}
use Rattle.fdb_lines.specs.Keys.{placed_found, places_of}
use Rattle.fdb_lines.specs.Lines.{is_ask, is_commit, is_read, is_report, lines_in}
use Rattle.fdb_lines.specs.Reasons.{found_of}
use Rattle.fdb_lines.specs.Summary.{how_many}
use Rattle.fdb_lines.specs.Watch.{AreFindingsDue}
use Rattle.fdb_lines.specs.Watching.{is_due, told_of}
use Rattle.fdb_log_reader.specs.declared.error.ReadError.{ReadError}
use Rattle.fdb_log_reader.specs.declared.error.Why.{Why}
use Rattle.fdb_log_reader.specs.declared.error.Why.TheVariants.{Empty}
use Rattle.fdb_log_reader.specs.Numbers.{IsMore}
use Rattle.fdb_log_reader.specs.Printed.{printed}
use Rattle.fdb_log_reader.specs.ReadLine.{SaidLine}
use Rattle.fdb_audit.specs.Clocks.{ClocksBefore, believed_end, certain_to, no_clocks, out_of_reach}
use Rattle.fdb_audit.specs.Figures.{Figure, figure, figures_words}
use Rattle.fdb_audit.specs.Judged.{list_text}
use Rattle.fdb_audit.specs.Objects.{total_object}
use Rattle.fdb_audit.specs.Text.{Beside, PrintedLog, fault_of, line}
use Rattle.fdb_audit.specs.ToldFaults.{AreTotalsTold, ToldFault, told_at}
use Rattle.fdb_audit.specs.declared.printer.LogFault.{LogFault}
use Rattle.fdb_audit.specs.declared.judgement.Wanted.{Wanted}

-- ---- the lines that are taken, of those that were read

-- those that are not refused
abbrev pub taken : List (Result SaidLine Why) → List SaidLine
taken [] = []
taken (Ok said ∷ read) = said ∷ taken read
taken (Err why ∷ read) = taken read

abbrev pub lines_taken : List (Result SaidLine Why) → List Line
lines_taken read = map (λ (said : SaidLine). said.line) (taken read)

abbrev pub keys_taken : List (Result SaidLine Why) → List (Option ℕ)
keys_taken read = map (λ (said : SaidLine). said.key) (taken read)

-- for each line that is refused, how many were taken above it
abbrev pub taken_above : ℕ → List (Result SaidLine Why) → List ℕ
taken_above above [] = []
taken_above above (Ok said ∷ read) = taken_above (above + 1) read
taken_above above (Err why ∷ read) = above ∷ taken_above above read

-- the last of the lines that are refused, and why, where the first of all is this one
abbrev pub last_refused : ℕ → Option ReadError → List (Result SaidLine Why) → Option ReadError
last_refused line last [] = last
last_refused line last (Ok said ∷ read) = last_refused (line + 1) last read
last_refused line last (Err why ∷ read) = last_refused (line + 1) (Some (record { line = line; why = why })) read

-- that there is no line, where none is taken, and none was before
abbrev pub no_line : List SaidLine → ℕ → Option ReadError
no_line [] zero = Some (record { line = 0; why = Empty })
no_line [] (suc before) = None
no_line (said ∷ taken) before = None

-- Of what was read before, the lines that were kept of it come first: where each stood among all, counted from 1; and how many more there were.
pub record KeptBefore : Type 0 where
  pub lines : List ℕ
  pub more : ℕ

-- nothing was read before
abbrev pub none_kept : KeptBefore
none_kept = record { lines = []; more = 0 }

-- how many lines were taken, in all and of each kind; how many were refused; how many began before what had been settled, and
-- how many of these were judged; and how many ends were found to be ahead
pub record Counted : Type 0 where
  pub lines : ℕ
  pub reads : ℕ
  pub commits : ℕ
  pub asks : ℕ
  pub reports : ℕ
  pub refused : ℕ
  pub early : ℕ
  pub judged : ℕ
  pub ahead : ℕ

-- What an earlier piece of the same watch has counted: how much was read; the last line that was refused, and the
-- last that came early, if there is one; the first fault that was told, and all of them, as they are counted.
pub record Before : Type 0 where
  pub counts : Counted
  pub refused : Option ReadError
  pub last_early : Option ℕ
  pub first : Option LogFault
  pub told : List ToldFault

abbrev pub none_counted : Counted
none_counted = record { lines = 0; reads = 0; commits = 0; asks = 0; reports = 0; refused = 0; early = 0; judged = 0; ahead = 0 }

abbrev pub none_before : Before
none_before = record { counts = none_counted; refused = None; last_early = None; first = None; told = [] }

-- From where a log is followed: how far behind the newest end a line that comes may begin; what was known of clocks; up
-- to when all had been told, and each key; which lines were kept of what was read before, and of these how many lines they are,
-- how many had come early, and which faults had been told; and what an earlier piece of the same watch has counted.
pub record Start : Type 0 where
  pub behind : ℕ
  pub clocks : ClocksBefore
  pub from : ℕ
  pub far : Option ℕ → SettledTo
  pub kept : KeptBefore
  pub lines : ℕ
  pub early : ℕ
  pub told : List Found
  pub before : Before

-- none of the lines that were kept has been read yet
abbrev pub start_with : ℕ → KeptBefore → Start
start_with behind kept = record {
  behind = behind;
  clocks = no_clocks;
  from = 0;
  far = λ key. not_settled;
  kept = kept;
  lines = 0;
  early = 0;
  told = [];
  before = none_before;
}

-- so many lines were read before, none of which was kept
abbrev pub start_behind : ℕ → ℕ → Start
start_behind behind lines = start_with behind (record { lines = []; more = lines })

-- nothing was read before
abbrev pub fresh : ℕ → Start
fresh behind = start_with behind none_kept

-- the lines that were taken of those that came since
abbrev pub lines_since : Start → List (Result SaidLine Why) → List Line
lines_since start read = lines_taken (drop start.lines read)

-- and of those that had been kept
abbrev pub lines_before : Start → List (Result SaidLine Why) → List Line
lines_before start read = lines_taken (take start.lines read)

-- Up to when all may be told of these lines: so far behind the newest end that is believed of them.
abbrev pub certain_in : Start → List (Result SaidLine Why) → ℕ
certain_in start read = certain_to start.from start.behind (believed_end start.clocks start.behind (lines_before start read) (lines_since start read))

-- how many of those that came since began before that when they came
abbrev pub out_of_reach_in : Start → List (Result SaidLine Why) → ℕ
out_of_reach_in start read = out_of_reach start.clocks start.from start.behind (lines_before start read) (lines_since start read)

-- nothing had been read
pub record IsAnew (start : Start) : Type 0 where
  pub clocks : start.clocks ≡ no_clocks
  pub from : start.from ≡ 0
  pub lines : start.lines ≡ 0

-- how many of some lines began before a moment
abbrev pub early_at : ℕ → List Line → ℕ
early_at at lines = count_by (λ line. nat_lt (began line) at) lines

-- why a part of a log is refused, if it is: the last line that is, or that none is taken
abbrev pub left_out : Start → List (Result SaidLine Why) → Option ReadError
left_out start read =
    option_or (last_refused (start.kept.more + 1) start.before.refused read) (no_line (taken read) start.before.counts.lines)

-- Where a line stands among all, counted from 1, by how many were taken above it: these, those that were not kept, and those
-- that were refused above.
abbrev pub taken_line : KeptBefore → List (Result SaidLine Why) → ℕ → ℕ
taken_line kept read above =
    unwrap_or (slice_get kept.lines above) (above + 1 + kept.more + count_by (λ refused. nat_le refused above) (taken_above 0 read))

-- ---- what is told of a key at a moment

-- How many lines had been read, and the names of clients among them; which key it is; which of the key's lines had been kept;
-- at which of its lines it was time to tell: those that began from one moment on and before another, and those since a number
-- that came late, from an earlier moment on; and what was found, by places among the lines that had been kept, with what was printed
-- beside these.
pub record Window : Type 0 where
  pub read : ℕ
  pub names : List (List ℕ)
  pub key : Option ℕ
  pub kept : List ℕ
  pub from : ℕ
  pub early : ℕ
  pub since : ℕ
  pub to : Option ℕ
  pub found : List Finding
  pub beside : List Beside

-- whether it is time to tell of a line of the key, by its number among them
abbrev pub due_in : Window → ℕ → Line → Bool
due_in window = is_due window.from window.early window.since window.to

-- What is found are the stale reads and the versions that are not above others, of all lines of the key that had been read.
abbrev pub TellsIn : ℕ → List Line → Window → Type 0
TellsIn margin lines window = AreFindingsDue margin (due_in window) window.early lines window.kept window.found

-- the places of those lines among all that were taken
abbrev pub places_in : List (Result SaidLine Why) → Window → List ℕ
places_in read window = map (slice_index (places_of (keys_taken read) window.key)) window.kept

-- what is printed of them
abbrev pub printed_in : KeptBefore → List (Result SaidLine Why) → Window → PrintedLog
printed_in kept read window = record {
  lines = lines_in (lines_taken read) (places_in read window);
  names = map printed window.names;
  own = map (taken_line kept read) (places_in read window);
  beside = window.beside;
}

-- whether faults are told, and not their totals alone
abbrev pub lists : Wanted → Bool
lists wanted = wanted.all || not wanted.totals

abbrev pub told_text : Wanted → PrintedLog → List Finding → List ℕ
told_text wanted it found = if lists wanted then list_text wanted.json it found else []

-- what is told of a key at a moment, of the lines that had been read by then
pub record IsWindow (kept : KeptBefore) (margin : ℕ) (wanted : Wanted) (read : List (Result SaidLine Why)) (window : Window) (text : List ℕ) : Type 0 where
  pub found : TellsIn margin (lines_of_one (lines_taken read) (keys_taken read) window.key) window
  pub printed : text ≡ told_text wanted (printed_in kept read window) window.found

-- the first fault that is told, by its line
abbrev pub first_in : KeptBefore → List (Result SaidLine Why) → Window → Option LogFault
first_in kept read window = option_map (λ finding. fault_of (map (taken_line kept read) (places_in read window)) (found_of finding)) (slice_get window.found 0)

abbrev pub first_told : KeptBefore → List (Result SaidLine Why) → List Window → Option LogFault
first_told kept read [] = None
first_told kept read (window ∷ windows) = option_or (first_in kept (take window.read read) window) (first_told kept read windows)

-- What is told of all lines that were read, one moment after another: names of clients keep their numbers.
abbrev pub AreWindows : KeptBefore → ℕ → Wanted → List (Result SaidLine Why) → List (List ℕ) → List Window → List ℕ → Type 0
AreWindows kept margin wanted read names [] text = text ≡ []
AreWindows kept margin wanted read names (window ∷ windows) text =
    (first rest : List ℕ) × (text ≡ first ++ rest) × (window.read ≤ length read) × IsMore window.names names
    × IsWindow kept margin wanted (take window.read read) window first × AreWindows kept margin wanted read names windows rest

-- the faults that a window tells, each at the place of its line among all lines that were taken
abbrev pub told_in : List (Result SaidLine Why) → Window → List Found
told_in read window = map (λ finding. placed_found (places_in read window) (found_of finding)) window.found

-- and those that windows tell, one after another
abbrev pub told_in_all : List (Result SaidLine Why) → List Window → List Found
told_in_all read windows = flat_map (λ (window : Window). told_in (take window.read read) window) windows

-- the same as they are counted: each by its kind, its client as it was printed, and what was printed beside it
abbrev pub faults_at : List (Result SaidLine Why) → Window → List ToldFault
faults_at read window =
    let lines = lines_in (lines_taken read) (places_in read window) in
    map (λ (finding : Finding). told_at lines (map printed window.names) window.beside finding.found) window.found

abbrev pub faults_told : List (Result SaidLine Why) → List Window → List ToldFault
faults_told read windows = flat_map (λ (window : Window). faults_at (take window.read read) window) windows

-- ---- of each key, one window behind another

-- how far each key has been told of, with a window more, of the lines that had been read by then
abbrev pub told_on : List (Result SaidLine Why) → Window → (Option ℕ → SettledTo) → Option ℕ → SettledTo
told_on read window far key =
    if option_eq ◌==◌ window.key key then record { to = window.to; come = length (lines_of_one (lines_taken read) (keys_taken read) key) } else far key

abbrev pub told_to : List (Result SaidLine Why) → (Option ℕ → SettledTo) → List Window → Option ℕ → SettledTo
told_to read far [] = far
told_to read far (window ∷ windows) = told_to read (told_on (take window.read read) window far) windows

-- each client of some lines has a name
abbrev pub AreNamed : List Line → List (List ℕ) → Type 0
AreNamed lines names = All (λ (line : Line). IfSome line.client (λ client. client < length names)) lines

-- A window goes on from where its key had been told of: from that moment on, and of lines that came since from so far before it on.
-- The clients of all lines that had been read have their names.
pub record GoesOnFrom (behind : ℕ) (far : SettledTo) (lines : List Line) (window : Window) : Type 0 where
  pub from : far ≡ record { to = Some window.from; come = window.since }
  pub early : window.early ≡ window.from - behind
  pub to : IfSome window.to (λ to. window.from ≤ to)
  pub names : AreNamed lines window.names

-- Each window goes on from where its key had been told of by those in front of it, and none of them had read more.
abbrev pub AreInTurn : ℕ → List (Result SaidLine Why) → (Option ℕ → SettledTo) → List Window → Type 0
AreInTurn behind read far [] = ⊤
AreInTurn behind read far (window ∷ windows) =
    GoesOnFrom behind (far window.key) (lines_taken (take window.read read)) window × All (λ (next : Window). window.read ≤ next.read) windows
    × AreInTurn behind read (told_on (take window.read read) window far) windows

-- All that there is to tell of a key's lines, up to a moment or in all, has been told: of all of them up to then; or a window that went on
-- from where the key was told of would tell nothing.
abbrev pub IsToldOff : (margin behind : ℕ) (to : Option ℕ) (lines : List Line) → SettledTo → Type 0
IsToldOff margin behind to lines far =
    (far ≡ record { to = to; come = length lines })
    ⊎ ((from : ℕ) × (far.to ≡ Some from) × (told_of margin (is_due from (from - behind) far.come to) lines ≡ []))

-- Of no line of a key that one window tells of does the other: each by its number among the lines of the key.
abbrev pub TellApart : List (Result SaidLine Why) → Window → Window → Type 0
TellApart read one other =
    one.key ≡ other.key → (number : ℕ) (line : Line) → number < length (lines_of_one (lines_taken (take one.read read)) (keys_taken (take one.read read)) one.key)
    → due_in one number line ≡ true → due_in other number line ≡ false

-- ---- what is printed at the end

pub record IsCounted (start : Start) (read : List (Result SaidLine Why)) (counts : Counted) : Type 0 where
  pub lines : counts.lines ≡ length (lines_since start read)
  pub reads : counts.reads ≡ how_many is_read (lines_since start read)
  pub commits : counts.commits ≡ how_many is_commit (lines_since start read)
  pub asks : counts.asks ≡ how_many is_ask (lines_since start read)
  pub reports : counts.reports ≡ how_many is_report (lines_since start read)
  pub refused : counts.refused ≡ length (taken_above 0 read)

-- a count that may be full, and so many more
abbrev pub sum_of : ℕ → ℕ → ℕ
sum_of before more = min (before + more) (2 ^ 64 - 1)

-- how much was read in all, by what was read before
abbrev pub counted_on : Counted → Counted → Counted
counted_on before counts = record {
  lines = sum_of before.lines counts.lines;
  reads = sum_of before.reads counts.reads;
  commits = sum_of before.commits counts.commits;
  asks = sum_of before.asks counts.asks;
  reports = sum_of before.reports counts.reports;
  refused = sum_of before.refused counts.refused;
  early = sum_of before.early counts.early;
  judged = sum_of before.judged counts.judged;
  ahead = sum_of before.ahead counts.ahead;
}

-- so much was read, with what an earlier piece has counted
abbrev pub AreCountedOn : Start → List (Result SaidLine Why) → Counted → Type 0
AreCountedOn start read all = (counts : Counted) × IsCounted start read counts × (all ≡ counted_on start.before.counts counts)

-- of lines that came early it is said how many were judged, where there are some
abbrev pub judged_figures : ℕ → ℕ → List Figure
judged_figures zero judged = []
judged_figures (suc early) judged = figure (codes "judged") judged ∷ []

-- and how many ends were found to be ahead, where some were
abbrev pub ahead_figures : ℕ → List Figure
ahead_figures zero = []
ahead_figures (suc ahead) = figure (codes "ahead") (suc ahead) ∷ []

-- these, by their names
abbrev pub counted_figures : Counted → List Figure
counted_figures counts =
    figure (codes "lines") counts.lines ∷ figure (codes "reads") counts.reads ∷ figure (codes "commits") counts.commits
    ∷ figure (codes "asks") counts.asks ∷ figure (codes "reports") counts.reports ∷ figure (codes "refused") counts.refused
    ∷ figure (codes "early") counts.early ∷ judged_figures counts.early counts.judged
    ++ ahead_figures counts.ahead

-- what is said in front of them, where no fault was found: a log of which lines came early was not judged whole
abbrev pub verdict_of : ℕ → List ℕ
verdict_of zero = codes "audit ok"
verdict_of (suc early) = codes "audit early"

-- the arguments: how far behind the newest end a line may begin, the margin, whether keys are kept, and what is printed beside lines
pub record FollowArguments : Type 0 where
  pub behind : ℕ
  pub margin : ℕ
  pub by_key : Bool
  pub members : List (List ℕ)

abbrev pub followed_figures : FollowArguments → List Figure
followed_figures asked = figure (codes "follow") asked.behind ∷ figure (codes "margin") asked.margin ∷ []

-- how much was read, in front of the totals
abbrev pub total_head : Bool → Counted → FollowArguments → List ℕ
total_head false counts asked = line (figures_words (codes "audit total") (counted_figures counts))
total_head true counts asked = line (total_object (counted_figures counts) (followed_figures asked) asked.by_key asked.members)

-- What is printed behind all that was told: that no fault was, in words, or that none was but lines came early; or the totals,
-- where they are wanted.
abbrev pub IsEnd : (quiet totals json : Bool) → Counted → FollowArguments → List ToldFault → List ℕ → Type 0
IsEnd true totals json counts asked told text = text ≡ line (figures_words (verdict_of counts.early) (counted_figures counts))
IsEnd false false json counts asked told text = text ≡ []
IsEnd false true json counts asked told text =
    (totals : List ℕ) × AreTotalsTold json asked.members told totals × (text ≡ total_head json counts asked ++ totals)
