-- What a text says that has the lines which are kept of a log that is followed. (this product's own)
use Rattle.std.specs.Prelude.{◌≡◌, ℕ, zero, suc, ◌+◌, ◌-◌, ◌<◌, nat_lt, ◌&&◌, Bool, false, All, IsPermutation, List, [], ◌∷◌, ◌++◌, Option, Some, codes, count_by, drop, is_some, length, map, option_and_then, option_map, slice_get, slice_index, string_bytes, take, unwrap_or, Result, if◌then◌else◌}
use Rattle.std.specs.List.{flat_map}
use Rattle.std.specs.Option.{option_flatten}
use Rattle.fdb_lines.specs.declared.key_part.KeyPart.{KeyPart}
use Rattle.fdb_lines.specs.declared.key_watch.KeyWatch.{KeyWatch}
use Rattle.fdb_lines.specs.KeyParts.{lines_of_one}
use Rattle.fdb_lines.specs.KeyWatch.{SettledTo, not_settled, settled_in}
use Rattle.fdb_lines.specs.Keys.{key_at}
use Rattle.fdb_lines.specs.Lines.{line_at}
use Rattle.fdb_lines.specs.ToldByKey.{audited_to}
use Rattle.fdb_log_reader.specs.declared.error.Why.{Why}
use Rattle.fdb_log_reader.specs.Members.{whole}
pub use Rattle.fdb_log_reader.specs.Named.{Named, client_named, key_named, named, named_said}
use Rattle.fdb_log_reader.specs.ReadLine.{LineNames, SaidLine, lines_read, names_behind, no_names}
use Rattle.fdb_log_reader.specs.Reading.{EndsALine, lines_in}
use Rattle.fdb_audit.specs.declared.arguments.AuditArguments.{AuditArguments}
use Rattle.fdb_audit.specs.declared.printer.LogFault.{LogFault}
use Rattle.fdb_audit.specs.declared.taken_lines.Taking.{Taking}
use Rattle.fdb_audit.specs.Clocks.{ahead_end, believed_from, no_clocks}
use Rattle.fdb_audit.specs.Following.{KeptBefore, Start, certain_in, early_at, keys_taken, lines_taken, none_before, taken_line, taken, told_in_all, told_to}
use Rattle.fdb_audit.specs.Taken.{AreTaken}
use Rattle.fdb_audit.specs.Watched.{IsFollowed, lines_asked, names_asked}

-- the members that say as what a line is kept: where it stood among all that were read, counted from 1; how many had been
-- read; up to when all was told, which is left out in lines that came since; and in the first of how many clients lines had come, up
-- to two
abbrev pub kept_members : List (List ℕ)
kept_members = codes "kept_line" ∷ codes "kept_lines" ∷ codes "kept_settled" ∷ codes "kept_clients" ∷ []

-- the lines that a text keeps, where a member has the keys, if they are kept
abbrev pub lines_kept : Option (List ℕ) → List ℕ → List SaidLine
lines_kept key text = taken (lines_read kept_members (no_names key) (lines_in text))

-- the whole number that stands in one of these members, if one does
abbrev pub number_kept : ℕ → SaidLine → Option ℕ
number_kept member said = option_and_then whole (option_flatten (slice_get said.shown member))

-- how many lines had been read, as the last line says that does
abbrev pub read_by : ℕ → List SaidLine → ℕ
read_by count [] = count
read_by count (said ∷ lines) = read_by (unwrap_or (number_kept 1 said) count) lines

-- and up to when all was told
abbrev pub settled_by : ℕ → List SaidLine → ℕ
settled_by at [] = at
settled_by at (said ∷ lines) = settled_by (unwrap_or (number_kept 2 said) at) lines

-- whether lines of more than one client had come
abbrev pub says_many : SaidLine → Bool
says_many said = nat_lt 1 (unwrap_or (number_kept 3 said) 0)

-- What is said of lines that are kept: where they stood, and how many more had been read; how many had come when it settled last,
-- and up to when it had; and whether lines of more than one client had come.
pub record KeptSaid : Type 0 where
  pub front : KeptBefore
  pub told : ℕ
  pub settled : ℕ
  pub many : Bool

abbrev pub kept_said : List SaidLine → KeptSaid
kept_said lines = record {
  front = record { lines = map (λ said. unwrap_or (number_kept 0 said) 0) lines; more = read_by 0 lines - length lines };
  told = count_by (λ said. is_some (number_kept 2 said)) lines;
  settled = settled_by 0 lines;
  many = nat_lt 0 (count_by says_many lines);
}

-- how far each key had settled of which a line had come by then, with these lines
abbrev pub settled_with : ℕ → ℕ → SettledTo
settled_with settled zero = not_settled
settled_with settled (suc come) = record { to = Some settled; come = suc come }

abbrev pub far_with : ℕ → List (Result SaidLine Why) → Option ℕ → SettledTo
far_with settled read key = settled_with settled (length (lines_of_one (lines_taken read) (keys_taken read) key))

-- From where a log is followed on of which lines were kept: of those that had come when it settled what there was to tell has been
-- told, up to when it had, and ends were believed so far ahead of that; and of the others those are early that began before.
abbrev pub start_from : ℕ → ℕ → KeptSaid → List (Result SaidLine Why) → Start
start_from behind margin kept read = record {
  behind = behind;
  clocks = record {
    believed = believed_from kept.settled behind;
    newest = 0;
    many = kept.many;
    ahead = ahead_end no_clocks behind [] (lines_taken read);
  };
  from = kept.settled;
  far = far_with kept.settled (take kept.told read);
  kept = kept.front;
  lines = length read;
  early = early_at kept.settled (lines_taken (drop kept.told read));
  told = audited_to margin kept.settled (lines_taken (take kept.told read)) (keys_taken (take kept.told read));
  before = none_before;
}

-- and by the text that keeps them
abbrev pub start_of : AuditArguments → ℕ → List ℕ → Start
start_of asked behind text =
    start_from behind asked.opts.margin (kept_said (lines_kept (option_map string_bytes asked.key) text)) (lines_asked asked text)

-- What is to be said of the lines that are kept of those that were taken, by their places: so many had come when it settled last. Where
-- none is kept, there is no line that says how many were read.
abbrev pub kept_at : KeptBefore → List (Result SaidLine Why) → List ℕ → ℕ → ℕ → Bool → KeptSaid
kept_at before read places come settled many =
    let told = count_by (λ place. nat_lt place come) places in
    record {
      front = record { lines = map (taken_line before read) places; more = if nat_lt 0 (length places) then length read + before.more - length places else 0 };
      told = told;
      settled = if nat_lt 0 told then settled else 0;
      many = nat_lt 0 (length places) && many;
    }

-- what the lines of a text say, where a member has the keys, and these members are shown
abbrev pub named_in : Option (List ℕ) → List (List ℕ) → List ℕ → List Named
named_in key shown text =
    map (named_said (names_behind shown (no_names key) (lines_in text))) (taken (lines_read shown (no_names key) (lines_in text)))

-- what the line at a place says, of those that were taken
abbrev pub named_at : LineNames → List (Result SaidLine Why) → ℕ → Named
named_at names read place = named names (line_at (lines_taken read) place) (key_at (keys_taken read) place)

-- the places of the lines that a watch keeps, key by key
abbrev pub places_kept : KeyWatch → List ℕ
places_kept watch = flat_map (λ (part : KeyPart). part.numbers.items) watch.parts.items

-- each of some places is above those in front of it
abbrev pub Rise : List ℕ → Type 0
Rise places = (i j : ℕ) → i < j → j < length places → slice_index places i < slice_index places j

-- A text says which lines are kept, those at some places, in the order in which they came, each once and with where it stood, how
-- many lines were read, where one is kept, and up to when all was told; and of each line, whatever is shown of it, what it said when it was taken, by
-- these names. Each of its lines is one of them, and it ends where a line does.
pub record KeepsLines (kept : List ℕ) (key : Option (List ℕ)) (names : LineNames) (before : KeptBefore) (taking : Taking) (read : List (Result SaidLine Why)) (text : List ℕ)
    : Type 0 where
  pub places : List ℕ
  pub all : IsPermutation kept places
  pub within : All (λ place. place < length (taken read)) places
  pub rise : Rise places
  pub said : kept_said (lines_kept key text) ≡ kept_at before read places taking.settled taking.watch.from (is_some taking.clocks.second)
  pub lines : (shown : List (List ℕ)) → named_in key shown text ≡ map (named_at names read) places
  pub whole : length (lines_in text) ≡ length places
  pub ends : EndsALine text

-- the lines that a watch keeps, all of them
abbrev pub Keeps : Option (List ℕ) → LineNames → KeptBefore → Taking → List (Result SaidLine Why) → List ℕ → Type 0
Keeps key names before taking read text = KeepsLines (places_kept taking.watch) key names before taking read text

-- A watch has stopped: what it has told of these bytes, and by what it goes on from them, which a text keeps: it has settled as far as
-- all may be told.
pub record IsStopped (asked : AuditArguments) (start : Start) (bytes text : List ℕ) (found : Option LogFault) (last_early : Option ℕ) (kept : List ℕ) : Type 0 where
  pub followed : IsFollowed asked start false bytes text found last_early
  pub taking : Taking
  pub margin : taking.watch.margin ≡ asked.opts.margin
  pub horizon : taking.watch.horizon ≡ start.behind
  pub far : (key : Option ℕ) → settled_in taking.watch.parts.items key ≡ told_to (lines_asked asked bytes) start.far followed.windows key
  pub early : followed.counts.early ≡ taking.counts.early
  pub taken : AreTaken start taking (lines_asked asked bytes) (start.told ++ told_in_all (lines_asked asked bytes) followed.windows)
  pub to : taking.watch.from ≡ certain_in start (lines_asked asked bytes)
  pub keeps : Keeps (option_map string_bytes asked.key) (names_asked asked bytes) start.kept taking (lines_asked asked bytes) kept
