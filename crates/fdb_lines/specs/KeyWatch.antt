-- What an audit that watches by key has seen, and what it tells: of each key what a watch of its lines does. (this product's own)
use Rattle.std.specs.Prelude.{◌≡◌, ◌≢◌, ◌⊎◌, ◌==◌, ℕ, ◌+◌, ◌<◌, ◌≤◌, cond, All, List, [], ◌∷◌, Option, Some, length, map, slice_index, slice_index_or}
use Rattle.std.specs.List.{AllPairs, Contains, flat_map}
use Rattle.std.specs.Option.{option_eq}
use Rattle.fdb_lines.specs.declared.key_part.KeptLine.{KeptLine}
use Rattle.fdb_lines.specs.declared.key_part.KeyPart.{KeyPart}
use Rattle.fdb_lines.specs.declared.key_part.SettledKey.{SettledKey}
use Rattle.fdb_lines.specs.declared.key_watch.KeyWatch.{KeyWatch}
use Rattle.fdb_lines.specs.declared.line.Line.{Line}
use Rattle.fdb_lines.specs.Carried.{open_count}
use Rattle.fdb_lines.specs.KeyParts.{lines_of_one, names_of, HasSeenOne}
use Rattle.fdb_lines.specs.Keys.{key_at, keys_of, places_of}
use Rattle.fdb_lines.specs.Lines.{Lines, line_at, lines_in}
use Rattle.fdb_lines.specs.Log.{lines_of, no_lines}
use Rattle.fdb_lines.specs.Watch.{due, judged_from, IsTold}
use Rattle.fdb_lines.specs.Watching.{told_of}

-- The lines that are kept of a key, as a log: those of its watch, and none where it has no line yet.
abbrev pub IsLogOf : List KeyPart → Option ℕ → Lines → Type 0
IsLogOf parts key log =
    ((part : KeyPart) × Contains parts part × (part.key ≡ key) × (log ≡ lines_of part.watch.log))
    ⊎ (((i : ℕ) → i < length (names_of parts) → key_at (names_of parts) i ≢ key) × (log ≡ no_lines))

-- from when on a line of a key is judged that comes late: as its watch judges, and any where it has no line yet
abbrev pub IsJudgedFrom : List KeyPart → Option ℕ → ℕ → Type 0
IsJudgedFrom parts key at =
    ((part : KeyPart) × Contains parts part × (part.key ≡ key) × (at ≡ judged_from part.watch))
    ⊎ (((i : ℕ) → i < length (names_of parts) → key_at (names_of parts) i ≢ key) × (at ≡ 0))

-- Up to when a key has settled, or for good, and how many of its lines had come then.
pub record SettledTo : Type 0 where
  pub to : Option ℕ
  pub come : ℕ

abbrev pub not_settled : SettledTo
not_settled = record { to = Some 0; come = 0 }

abbrev pub settled_of : KeyPart → SettledTo
settled_of part = record { to = Some part.watch.from; come = part.watch.settled }

-- how far a key has settled: as its watch has, and not at all where it has no line yet
abbrev pub settled_in : List KeyPart → Option ℕ → SettledTo
settled_in [] key = not_settled
settled_in (part ∷ parts) key = cond (option_eq ◌==◌ part.key key) (settled_of part) (settled_in parts key)

-- All lines that ever came, with their keys: each key that has lines has one watch, which has seen them, and no other key.
pub record HasSeenByKey (watch : KeyWatch) (lines : List Line) (keys : List (Option ℕ)) : Type 0 where
  pub count : watch.count ≡ length lines
  pub as_many : length keys ≡ length lines
  pub names : names_of watch.parts.items ≡ keys_of keys
  pub each : All (HasSeenOne lines keys) watch.parts.items

-- A line that is kept is the one of its number among all lines that came, with its key.
pub record IsKept (lines : List Line) (keys : List (Option ℕ)) (kept : KeptLine) : Type 0 where
  pub came : kept.number < length lines
  pub key : kept.key ≡ key_at keys kept.number
  pub line : kept.line ≡ line_at lines kept.number

-- The lines that are kept are those whose numbers the parts have, part by part; none is left out, and none comes in.
pub record AreKept (lines : List Line) (keys : List (Option ℕ)) (parts : List KeyPart) (kept : List KeptLine) : Type 0 where
  pub each : All (IsKept lines keys) kept
  pub all : map (λ (one : KeptLine). one.number) kept ≡ flat_map (λ (part : KeyPart). part.numbers.items) parts

-- What is told of a key is what its watch tells of its lines; of the lines that it kept, the numbers are those among all.
pub record IsToldOf (to : Option ℕ) (lines : List Line) (keys : List (Option ℕ)) (entry : SettledKey) (part : KeyPart) : Type 0 where
  pub key : entry.key ≡ part.key
  pub told : IsTold part.watch to (lines_of_one lines keys part.key) part.watch.numbers.items entry.settled.found.items
  pub numbers : entry.settled.numbers.items ≡ map (slice_index (places_of keys part.key)) part.watch.numbers.items
  pub log : (lines_of entry.settled.log).lines ≡ lines_in lines entry.settled.numbers.items

-- Each entry tells of a key, and no two tell of one; and how far a key has settled is how far its watch has.
pub record AreTold (to : Option ℕ) (lines : List Line) (keys : List (Option ℕ)) (parts : List KeyPart) (entries : List SettledKey) : Type 0 where
  pub each : All (λ entry. (i : ℕ) × (i < length parts) × ((d : KeyPart) → IsToldOf to lines keys entry (slice_index_or parts i d))) entries
  pub once : AllPairs (λ one other. one.key ≢ other.key) entries
  pub far : All (λ (part : KeyPart). settled_in parts part.key ≡ settled_of part) parts

abbrev pub HasEntry : List SettledKey → Option ℕ → Type 0
HasEntry entries key = Contains (map (λ (entry : SettledKey). entry.key) entries) key

abbrev pub HasNothingToTell : Option ℕ → List Line → List (Option ℕ) → KeyPart → Type 0
HasNothingToTell to lines keys part = told_of part.watch.margin (due part.watch to) (lines_of_one lines keys part.key) ≡ []

-- Once all settle up to a moment, a key has an entry and has settled; or it is as it was: there is nothing to tell of it, and it
-- keeps few lines.
pub record HasSettled (to : ℕ) (old new : KeyPart) : Type 0 where
  pub key : new.key ≡ old.key
  pub from : new.watch.from ≡ to
  pub settled : new.watch.settled ≡ old.watch.count
  pub few : length new.watch.numbers.items ≤ open_count old.watch.margin (judged_from new.watch) old.watch.log.lines.items + 2

pub record StaysQuiet (to : ℕ) (lines : List Line) (keys : List (Option ℕ)) (entries : List SettledKey) (old new : KeyPart) : Type 0 where
  pub same : new ≡ old
  pub no_entry : HasEntry entries old.key → ⊥
  pub none_came : old.watch.settled ≡ old.watch.count
  pub nothing : HasNothingToTell (Some to) lines keys old
  pub few : length old.watch.numbers.items ≤ 2

abbrev pub SettlesOrStays : ℕ → List Line → List (Option ℕ) → List SettledKey → KeyPart → KeyPart → Type 0
SettlesOrStays to lines keys entries old new = (HasEntry entries old.key × HasSettled to old new) ⊎ StaysQuiet to lines keys entries old new

-- So a key that has an entry has settled with all the lines that it has by then; and another is where it was, and no line of it came.
abbrev pub GoesTo : (to come : ℕ) → List SettledKey → Option ℕ → (old new : SettledTo) → Type 0
GoesTo to come entries key old new =
    (HasEntry entries key × (new ≡ record { to = Some to; come = come })) ⊎ ((HasEntry entries key → ⊥) × (new ≡ old) × (old.come ≡ come))

-- An entry says which of the lines that a key had kept, by their places among these, it keeps on.
pub record KeepsOnAt (entry : SettledKey) (part : KeyPart) : Type 0 where
  pub key : part.key ≡ entry.key
  pub numbers : part.numbers.items ≡ map (slice_index entry.settled.numbers.items) entry.settled.kept.items
  pub within : All (λ place. place < length entry.settled.numbers.items) entry.settled.kept.items

abbrev pub KeepsOn : List KeyPart → SettledKey → Type 0
KeepsOn parts entry = (i : ℕ) × (i < length parts) × ((d : KeyPart) → KeepsOnAt entry (slice_index_or parts i d))
