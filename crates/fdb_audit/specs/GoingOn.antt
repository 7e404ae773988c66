-- A watch that goes on from what it keeps, where the names that it holds have become many. (this product's own)
use Rattle.std.specs.Prelude.{◌≡◌, ℕ, ◌+◌, ◌-◌, ◌<◌, ◌≤◌, ◌++◌, All, Bool, false, List, None, Option, Result, Some, length, option_map, slice_get, string_bytes, true}
use Rattle.std.specs.List.{filter}
use Rattle.std.specs.Option.{option_or}
use Rattle.fdb_lines.specs.KeyWatch.{settled_in}
use Rattle.fdb_lines.specs.Keys.{key_at}
use Rattle.fdb_log_reader.specs.declared.error.Why.{Why}
use Rattle.fdb_log_reader.specs.ReadLine.{SaidLine}
use Rattle.fdb_log_reader.specs.Reading.{EndsALine}
use Rattle.fdb_audit.specs.Following.{AreInTurn, AreWindows, Before, Start, Window, counted_on, faults_told, first_told, keys_taken, last_refused, told_in_all, told_to}
use Rattle.fdb_audit.specs.Kept.{KeepsLines, places_kept, start_of}
use Rattle.fdb_audit.specs.Recent.{believed_by, believed_now, keys_since}
use Rattle.fdb_audit.specs.Taken.{AreTaken, counted_of, known_by}
use Rattle.fdb_audit.specs.Watched.{IsAt, lines_asked, names_asked}
use Rattle.fdb_audit.specs.declared.arguments.AuditArguments.{AuditArguments}
use Rattle.fdb_audit.specs.declared.taken_lines.Taking.{Taking}

-- What is counted of all that had been read when a watch goes on: of these lines, and of what came before them.
abbrev pub counted_before : Start → List (Result SaidLine Why) → List Window → Taking → Before
counted_before start read windows taking = record {
  counts = counted_on start.before.counts (counted_of taking);
  refused = last_refused (start.kept.more + 1) start.before.refused read;
  last_early = option_or taking.counts.last_early start.before.last_early;
  first = option_or start.before.first (first_told start.kept read windows);
  told = start.before.told ++ faults_told read windows;
}

-- Of what a watch keeps, the places of the lines whose keys stay.
abbrev pub places_staying : (Option ℕ → Bool) → List (Result SaidLine Why) → Taking → List ℕ
places_staying stays read taking = filter (λ place. stays (key_at (keys_taken read) place)) (places_kept taking.watch)

-- Lines without a key stay, and where no key is to be forgotten, all do. Else a key stays of which a line came since, where what was
-- believed once it had come is within so much of what is believed now.
pub record MayForget (forget : Option ℕ) (start : Start) (read : List (Result SaidLine Why)) (stays : Option ℕ → Bool) : Type 0 where
  pub unkeyed : stays None ≡ true
  pub all : forget ≡ None → (key : Option ℕ) → stays key ≡ true
  pub recent : (after place key : ℕ) → forget ≡ Some after → slice_get (keys_since start read) place ≡ Some (Some key)
      → believed_now start read - believed_by start read (place + 1) ≤ after → stays (Some key) ≡ true

-- A watch goes on where a line of these bytes ends: it has told this text of them, and from now on it is as one that was restored from
-- the text that keeps its lines, but for those of keys that it forgets, with what it has counted and knows of clocks. This text says up to when all was told,
-- and by a line how many were read.
pub record GoesOnBy (asked : AuditArguments) (start : Start) (bytes told kept : List ℕ) (next : Start) : Type 0 where
  pub taking : Taking
  pub windows : List Window
  pub margin : taking.watch.margin ≡ asked.opts.margin
  pub horizon : taking.watch.horizon ≡ start.behind
  pub far : (key : Option ℕ) → settled_in taking.watch.parts.items key ≡ told_to (lines_asked asked bytes) start.far windows key
  pub taken : AreTaken start taking (lines_asked asked bytes) (start.told ++ told_in_all (lines_asked asked bytes) windows)
  pub tells : AreWindows start.kept asked.opts.margin asked.wanted (lines_asked asked bytes) (names_asked asked bytes).clients windows told
  pub in_turn : AreInTurn start.behind (lines_asked asked bytes) start.far windows
  pub at : All (IsAt start false (lines_asked asked bytes) taking.settlings.at) windows
  pub stays : Option ℕ → Bool
  pub forgets : MayForget asked.forget start (lines_asked asked bytes) stays
  pub some : 0 < length (places_staying stays (lines_asked asked bytes) taking)
  pub keeps : KeepsLines (places_staying stays (lines_asked asked bytes) taking) (option_map string_bytes asked.key) (names_asked asked bytes) start.kept taking (lines_asked asked bytes) kept
  pub ends : EndsALine bytes
  pub from : next.from ≡ taking.watch.from
  pub next_is : next ≡ record (start_of asked start.behind kept) { clocks = known_by taking.clocks; before = counted_before start (lines_asked asked bytes) windows taking }
