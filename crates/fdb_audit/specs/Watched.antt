-- What has been told of a text whose log is followed. (this product's own)
use Rattle.std.specs.Prelude.{◌≡◌, ℕ, ◌<◌, ◌≤◌, ◌&&◌, ◌++◌, Bool, true, false, not, All, IfSome, IsPermutation, List, None, Option, Some, is_some, length, map, take, option_map, option_to_list, string_bytes, Result}
use Rattle.std.specs.List.{AllPairs, Contains}
use Rattle.std.specs.Option.{option_or}
use Rattle.fdb_lines.specs.declared.fault.Found.{Found}
use Rattle.fdb_lines.specs.KeyParts.{lines_of_one}
use Rattle.fdb_lines.specs.KeyWatch.{settled_in}
use Rattle.fdb_lines.specs.ToldByKey.{audited, audited_to}
use Rattle.fdb_log_reader.specs.declared.error.Why.{Why}
use Rattle.fdb_log_reader.specs.LineReader.{line_names, lines_on, names_on}
use Rattle.fdb_log_reader.specs.Printed.{printed}
use Rattle.fdb_log_reader.specs.ReadLine.{LineNames, SaidLine, lines_read, names_behind, no_names}
use Rattle.fdb_log_reader.specs.Reading.{lines_in}
use Rattle.fdb_audit.specs.declared.arguments.AuditArguments.{AuditArguments}
use Rattle.fdb_audit.specs.declared.printer.LogFault.{LogFault}
use Rattle.fdb_audit.specs.declared.follower.Follower.{Follower}
use Rattle.fdb_audit.specs.declared.teller.Teller.{Teller}
use Rattle.fdb_audit.specs.Following.{AreInTurn, AreNamed, AreWindows, Counted, FollowArguments, IsCounted, IsEnd, IsToldOff, Start, Window, certain_in, counted_on, early_at, faults_told, first_told, keys_taken, lines_before, lines_since, lines_taken, out_of_reach_in, taken, told_in_all, told_to}
use Rattle.fdb_audit.specs.Came.{ahead_lines, certain_with}
use Rattle.fdb_audit.specs.Taken.{AreTaken, HasTotals, HasWarned, IsCarried, counted_of}
use Rattle.fdb_audit.specs.Recent.{KnowsTimes}
use Rattle.fdb_audit.specs.Warned.{AreEarly, IsSaid}

-- what becomes of the lines of a text, as it is asked for
abbrev pub lines_asked : AuditArguments → List ℕ → List (Result SaidLine Why)
lines_asked asked text = lines_read (map string_bytes asked.shown.items) (no_names (option_map string_bytes asked.key)) (lines_in text)

-- the names of a text's clients and the keys
abbrev pub names_asked : AuditArguments → List ℕ → LineNames
names_asked asked text = names_behind (map string_bytes asked.shown.items) (no_names (option_map string_bytes asked.key)) (lines_in text)

-- the names of the members that are printed beside lines, as they are printed: of that which has the keys, and of those that are shown
abbrev pub members_asked : AuditArguments → List (List ℕ)
members_asked asked =
    option_to_list (option_map (λ name. printed (string_bytes name)) asked.key) ++ map (λ name. printed (string_bytes name)) asked.shown.items

-- Both ask for the same of a log that is followed.
pub record AskForTheSame (asked other : AuditArguments) : Type 0 where
  pub opts : other.opts ≡ asked.opts
  pub wanted : other.wanted ≡ asked.wanted
  pub forget : other.forget ≡ asked.forget
  pub key : option_map string_bytes other.key ≡ option_map string_bytes asked.key
  pub shown : map string_bytes other.shown.items ≡ map string_bytes asked.shown.items

-- by which arguments a log is followed
abbrev pub followed_by : AuditArguments → ℕ → FollowArguments
followed_by asked behind = record { behind = behind; margin = asked.opts.margin; by_key = is_some asked.key; members = members_asked asked }

-- a teller that has told these windows, as it is asked for
pub record IsTellerOf (asked : AuditArguments) (start : Start) (teller : Teller) (read : List (Result SaidLine Why)) (windows : List Window) : Type 0 where
  pub wanted : teller.wanted ≡ asked.wanted
  pub margin : teller.margin ≡ asked.opts.margin
  pub by_key : is_some teller.key ≡ is_some asked.key
  pub first : teller.first ≡ option_or start.before.first (first_told start.kept read windows)
  pub totals : HasTotals (members_asked asked) teller (start.before.told ++ faults_told read windows)

-- A window told of a key when a watch settled, as far as all might be told then; or, where the log has ended, of all.
pub record IsAt (start : Start) (ends : Bool) (read : List (Result SaidLine Why)) (settled : List ℕ) (window : Window) : Type 0 where
  pub to : IfSome window.to (λ to. let come = length (taken (take window.read read)) in
      Contains settled come × (to ≡ certain_with start (lines_before start read) (lines_since start read) come))
  pub last : window.to ≡ None → (ends ≡ true) × (window.read ≡ length read)

-- up to when all is told at the end: in all, or up to when all may be told, where the log is to be followed on
abbrev pub told_up_to : Bool → Start → List (Result SaidLine Why) → Option ℕ
told_up_to true start read = None
told_up_to false start read = Some (certain_in start read)

-- Of each key that a line has all has been told that there is to tell.
abbrev pub AreToldOff : (margin : ℕ) → Start → (ends : Bool) → List (Result SaidLine Why) → List Window → Type 0
AreToldOff margin start ends read windows =
    (key : Option ℕ) → Contains (keys_taken read) key
    → IsToldOff margin start.behind (told_up_to ends start read) (lines_of_one (lines_taken read) (keys_taken read) key) (told_to read start.far windows key)

-- At the end of a log has been told, each fault once, what an audit of all lines finds; where it is to be followed on, what that
-- finds at lines that began before all may be told.
abbrev pub IsComplete : Bool → ℕ → Start → List (Result SaidLine Why) → List Found → Type 0
IsComplete true margin start read told = IsPermutation told (audited margin (lines_taken read) (keys_taken read))
IsComplete false margin start read told = IsPermutation told (audited_to margin (certain_in start read) (lines_taken read) (keys_taken read))

-- These lines were read, and this text has been told of them, but for what is told next.
pub record IsTelling (asked : AuditArguments) (start : Start) (follower : Follower) (read : List (Result SaidLine Why)) (told : List ℕ) : Type 0 where
  pub behind : follower.behind ≡ start.behind
  pub carried : IsCarried start.before follower.before
  pub windows : List Window
  pub taken : AreTaken start follower.taking read (start.told ++ told_in_all read windows)
  pub margin : follower.taking.watch.margin ≡ asked.opts.margin
  pub horizon : follower.taking.watch.horizon ≡ start.behind
  pub far : (key : Option ℕ) → settled_in follower.taking.watch.parts.items key ≡ told_to read start.far windows key
  pub named : AreNamed (lines_taken read) (line_names follower.reader).clients
  pub tells : AreWindows start.kept asked.opts.margin asked.wanted read (line_names follower.reader).clients windows (told ++ string_bytes follower.teller.text)
  pub in_turn : AreInTurn start.behind read start.far windows
  pub at : All (IsAt start false read follower.taking.settlings.at) windows
  pub are : IsTellerOf asked start follower.teller read windows
  pub times : KnowsTimes asked.forget start follower.taking.times read

-- These bytes have been read, whatever comes after them, and this text has been told of their lines.
pub record HasFollowed (asked : AuditArguments) (start : Start) (follower : Follower) (bytes told : List ℕ) : Type 0 where
  pub read : List (Result SaidLine Why)
  pub goes : (text : List ℕ) → lines_asked asked (bytes ++ text) ≡ read ++ lines_on follower.reader text
  pub behind : (text : List ℕ) → names_asked asked (bytes ++ text) ≡ names_on follower.reader text
  pub telling : IsTelling asked start follower read told

-- These bytes have been read, whatever comes after them, and this was said of their lines on standard error.
pub record HasSaid (asked : AuditArguments) (start : Start) (follower : Follower) (bytes warned : List ℕ) : Type 0 where
  pub read : List (Result SaidLine Why)
  pub goes : (text : List ℕ) → lines_asked asked (bytes ++ text) ≡ read ++ lines_on follower.reader text
  pub behind : follower.behind ≡ start.behind
  pub carried : IsCarried start.before follower.before
  pub told : List Found
  pub taken : AreTaken start follower.taking read told
  pub said : HasWarned start follower.taking read warned

-- What is told of all lines of a text, window by window, and at the end how much was read, with what an earlier piece has counted;
-- the first fault, if one was told, and the last line that came early, if one did. Where none came early, it is whole; no more came early
-- than began out of reach, and so many were ahead as are of what was known; and no fewer came early than began before that up to
-- which all had been told.
pub record IsFollowed (asked : AuditArguments) (start : Start) (ends : Bool) (bytes text : List ℕ) (found : Option LogFault) (last_early : Option ℕ) : Type 0 where
  pub windows : List Window
  pub told : List ℕ
  pub before : start.early ≡ 0 → All (λ (found : Found). found.place < start.lines) start.told
  pub counts : Counted
  pub end : List ℕ
  pub text_is : text ≡ told ++ end
  pub tells : AreWindows start.kept asked.opts.margin asked.wanted (lines_asked asked bytes) (names_asked asked bytes).clients windows told
  pub in_turn : AreInTurn start.behind (lines_asked asked bytes) start.far windows
  pub all : AreToldOff asked.opts.margin start ends (lines_asked asked bytes) windows
  pub first : found ≡ option_or start.before.first (first_told start.kept (lines_asked asked bytes) windows)
  pub counted : IsCounted start (lines_asked asked bytes) counts
  pub end_is : IsEnd (not (is_some found) && not asked.wanted.json) asked.wanted.totals asked.wanted.json (counted_on start.before.counts counts)
      (followed_by asked start.behind) (start.before.told ++ faults_told (lines_asked asked bytes) windows) end
  pub whole : start.early ≡ 0 → counts.early ≡ 0 → IsComplete ends asked.opts.margin start (lines_asked asked bytes) (start.told ++ told_in_all (lines_asked asked bytes) windows)
  pub early : counts.early ≤ out_of_reach_in start (lines_asked asked bytes)
  pub ahead : counts.ahead ≡ length (ahead_lines start (lines_asked asked bytes))
  pub settled : List ℕ
  pub order : AllPairs (λ one other. other ≤ one) settled
  pub at : All (IsAt start ends (lines_asked asked bytes) settled) windows
  pub last : Option ℕ
  pub came : AreEarly start (lines_asked asked bytes) settled counts.early counts.judged last
  pub last_is : last_early ≡ option_or last start.before.last_early
  pub late : early_at start.from (lines_since start (lines_asked asked bytes)) ≤ counts.early

-- At the end this was said of all lines on standard error, where it had settled when so many had been taken.
abbrev pub HasSaidAll : AuditArguments → Start → List ℕ → (settled : List ℕ) → List ℕ → Type 0
HasSaidAll asked start bytes settled text = IsSaid start (lines_asked asked bytes) settled text

-- all that is told of these lines has been told, but for what is told next
pub record HasToldAll (asked : AuditArguments) (start : Start) (ends : Bool) (follower : Follower) (read : List (Result SaidLine Why)) (told : List ℕ) : Type 0 where
  pub behind : follower.behind ≡ start.behind
  pub carried : IsCarried start.before follower.before
  pub windows : List Window
  pub tells : AreWindows start.kept asked.opts.margin asked.wanted read (line_names follower.reader).clients windows (told ++ string_bytes follower.teller.text)
  pub in_turn : AreInTurn start.behind read start.far windows
  pub all : AreToldOff asked.opts.margin start ends read windows
  pub are : IsTellerOf asked start follower.teller read windows
  pub before : start.early ≡ 0 → All (λ (found : Found). found.place < start.lines) start.told
  pub counted : IsCounted start read (counted_of follower.taking)
  pub whole : start.early ≡ 0 → follower.taking.counts.early ≡ 0 → IsComplete ends asked.opts.margin start read (start.told ++ told_in_all read windows)
  pub early : follower.taking.counts.early ≤ out_of_reach_in start read
  pub ahead : follower.taking.counts.ahead ≡ length (ahead_lines start read)
  pub order : AllPairs (λ one other. other ≤ one) follower.taking.settlings.at
  pub at : All (IsAt start ends read follower.taking.settlings.at) windows
  pub came : AreEarly start read follower.taking.settlings.at follower.taking.counts.early follower.taking.counts.judged follower.taking.counts.last_early
  pub late : early_at start.from (lines_since start read) ≤ follower.taking.counts.early
