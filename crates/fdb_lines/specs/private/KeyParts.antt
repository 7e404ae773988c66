-- The parts of an audit that watches by key: one for each key, of which some are open.
use Rattle.std.specs.Prelude.{◌≡◌, ◌≢◌, ◌==◌, ℕ, zero, suc, ◌+◌, ◌<◌, ◌≤◌, max, Bool, true, false, All, List, [], ◌∷◌, ◌++◌, Option, Some, length, map, set, slice_index, slice_index_or}
use Rattle.std.specs.List.{AllPairs, list_any}
use Rattle.fdb_lines.specs.declared.key_part.KeptLine.{KeptLine}
use Rattle.fdb_lines.specs.declared.key_part.KeyPart.{KeyPart}
use Rattle.fdb_lines.specs.declared.key_part.SettledKey.{SettledKey}
use Rattle.fdb_lines.specs.declared.line.Line.{Line}
use Rattle.fdb_lines.specs.declared.fault.Finding.{Finding}
use Rattle.fdb_lines.specs.Carried.{open_count}
use Rattle.fdb_lines.specs.KeyParts.{HasStayed}
use Rattle.fdb_lines.specs.Lines.{line_at}
use Rattle.fdb_lines.specs.Watch.{judged_from, HasSeen, IsTold}
use Rattle.fdb_lines.specs.private.Quiet.{IsQuiet}

-- whether each is open
abbrev pub flags_of : List KeyPart → List Bool
flags_of parts = map (λ (part : KeyPart). part.is_open) parts

abbrev pub flag_at : List Bool → ℕ → Bool
flag_at flags i = slice_index_or flags i false

-- those that are open are listed, each once
pub record AreOpen (flags : List Bool) (places : List ℕ) : Type 0 where
  pub once : AllPairs (λ i j. i ≢ j) places
  pub listed : (i : ℕ) → list_any (λ j. j == i) places ≡ flag_at flags i

-- a watch of these, that has settled no further than to a moment
pub record IsAlike (margin horizon from : ℕ) (part : KeyPart) : Type 0 where
  pub its_margin : part.watch.margin ≡ margin
  pub its_horizon : part.watch.horizon ≡ horizon
  pub its_from : part.watch.from ≤ from

-- the lines that it keeps, with their numbers among all
abbrev pub kept_at : KeyPart → ℕ → KeptLine
kept_at part i = record { number = slice_index part.numbers.items i; key = part.key; line = line_at part.watch.log.lines.items i }

abbrev pub kept_below : KeyPart → ℕ → List KeptLine
kept_below part zero = []
kept_below part (suc n) = kept_below part n ++ kept_at part n ∷ []

abbrev pub kept_in_part : KeyPart → List KeptLine
kept_in_part part = kept_below part (length part.numbers.items)

-- it has seen one line more, which has this number among all
pub record HasOneMore (line : Line) (number : ℕ) (old new : KeyPart) : Type 0 where
  pub key : new.key ≡ old.key
  pub seen : (lines : List Line) → HasSeen old.watch lines → HasSeen new.watch (lines ++ line ∷ [])
  pub kept : new.watch.numbers.items ≡ old.watch.numbers.items ++ old.watch.count ∷ []
  pub numbers : new.numbers.items ≡ old.numbers.items ++ number ∷ []

-- it has seen what it had
pub record HasNoMore (old new : KeyPart) : Type 0 where
  pub key : new.key ≡ old.key
  pub seen : (lines : List Line) → HasSeen old.watch lines → HasSeen new.watch lines
  pub kept : new.watch.numbers.items ≡ old.watch.numbers.items
  pub numbers : new.numbers.items ≡ old.numbers.items

-- It as it goes on once it has settled up to a moment, what it tells, and the places of the lines that it keeps.
pub record IsNext (at : ℕ) (old new : KeyPart) (found : List Finding) (places : List ℕ) : Type 0 where
  pub key : new.key ≡ old.key
  pub told : (lines : List Line) → HasSeen old.watch lines → IsTold old.watch (Some (max old.watch.from at)) lines old.watch.numbers.items found
  pub seen : (lines : List Line) → HasSeen old.watch lines → HasSeen new.watch lines
  pub kept : new.watch.numbers.items ≡ map (slice_index old.watch.numbers.items) places
  pub within : All (λ place. place < length old.watch.numbers.items) places
  pub numbers : new.numbers.items ≡ map (slice_index old.numbers.items) places
  pub from : new.watch.from ≡ max old.watch.from at
  pub settled : new.watch.settled ≡ old.watch.count
  pub margin : new.watch.margin ≡ old.watch.margin
  pub horizon : new.watch.horizon ≡ old.watch.horizon
  pub few : length new.watch.numbers.items ≤ open_count old.watch.margin (judged_from new.watch) old.watch.log.lines.items + 2
  pub quiet : IsQuiet new.watch → new.is_open ≡ false

-- what it tells is for the entry of its key
abbrev pub IsNextOf : ℕ → KeyPart → KeyPart → SettledKey → Type 0
IsNextOf at old new entry = IsNext at old new entry.settled.found.items entry.settled.kept.items × (entry.key ≡ old.key)

-- an entry has been given the lines that a part kept
pub record IsGiven (part : KeyPart) (old new : SettledKey) : Type 0 where
  pub key : new.key ≡ old.key
  pub found : new.settled.found ≡ old.settled.found
  pub kept : new.settled.kept ≡ old.settled.kept
  pub log : new.settled.log ≡ part.watch.log
  pub numbers : new.settled.numbers ≡ part.numbers

-- ---- of parts, those at some places

abbrev pub IsAs : KeyPart → KeyPart → Type 0
IsAs old new = IsAlike old.watch.margin old.watch.horizon old.watch.from new

-- the part at a place is another, that has stayed, and the others are as they were
abbrev pub StaysAt : ℕ → List KeyPart → List KeyPart → Type 0
StaysAt place old new =
    (part : KeyPart) × HasStayed (slice_index_or old place part) part × IsAs (slice_index_or old place part) part × (new ≡ set old place part)

-- it has one line more, or none
abbrev pub HasOneMoreAt : ℕ → Line → ℕ → List KeyPart → List KeyPart → Type 0
HasOneMoreAt place line number old new = (part : KeyPart) × HasOneMore line number (slice_index_or old place part) part × (new ≡ set old place part)

abbrev pub HasNoMoreAt : ℕ → List KeyPart → List KeyPart → Type 0
HasNoMoreAt place old new = (part : KeyPart) × HasNoMore (slice_index_or old place part) part × (new ≡ set old place part)

-- the part of a key with its first line
pub record BeginsWith (name : Option ℕ) (margin horizon : ℕ) (line : Line) (number : ℕ) (part : KeyPart) : Type 0 where
  pub empty : KeyPart
  pub key : empty.key ≡ name
  pub seen : HasSeen empty.watch []
  pub numbers : empty.numbers.items ≡ []
  pub more : HasOneMore line number empty part
  pub alike : IsAlike margin horizon 0 part
  pub opened : part.is_open ≡ true

-- how those at some places go on, and what is told of them
pub record AreNext (at : ℕ) (parts : List KeyPart) (places : List ℕ) (nexts : List KeyPart) (entries : List SettledKey) : Type 0 where
  pub as_many : length nexts ≡ length places
  pub entries_too : length entries ≡ length places
  pub each : (j : ℕ) (d e : KeyPart) (f : SettledKey) → j < length places
      → IsNextOf at (slice_index_or parts (slice_index places j) d) (slice_index_or nexts j e) (slice_index_or entries j f)

-- they are put there, and the entries have been given the lines that they kept
pub record ArePut (old : List KeyPart) (places : List ℕ) (nexts : List KeyPart) (entries : List SettledKey) (new : List KeyPart) (given : List SettledKey) : Type 0 where
  pub as_many : length new ≡ length old
  pub entries_too : length given ≡ length entries
  pub put : (j : ℕ) (d : KeyPart) → j < length places → slice_index_or new (slice_index places j) d ≡ slice_index_or nexts j d
  pub others : (i : ℕ) (d : KeyPart) → ((j : ℕ) → j < length places → slice_index places j ≢ i) → slice_index_or new i d ≡ slice_index_or old i d
  pub its : (j : ℕ) (d : KeyPart) (e : SettledKey) → j < length places → IsGiven (slice_index_or old (slice_index places j) d) (slice_index_or entries j e) (slice_index_or given j e)

-- ---- what is told of those at some places, up to a moment or for good

pub record IsEntryOf (to : Option ℕ) (part : KeyPart) (entry : SettledKey) : Type 0 where
  pub key : entry.key ≡ part.key
  pub told : (lines : List Line) → HasSeen part.watch lines → IsTold part.watch to lines part.watch.numbers.items entry.settled.found.items
  pub log : entry.settled.log ≡ part.watch.log
  pub numbers : entry.settled.numbers ≡ part.numbers

pub record AreEntriesOf (to : Option ℕ) (parts : List KeyPart) (places : List ℕ) (entries : List SettledKey) : Type 0 where
  pub as_many : length entries ≡ length places
  pub each : (j : ℕ) (d : KeyPart) (e : SettledKey) → j < length places → IsEntryOf to (slice_index_or parts (slice_index places j) d) (slice_index_or entries j e)
