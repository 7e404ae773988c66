-- What the watch of each key has seen, of all lines of a log with keys. (this product's own)
use Rattle.std.specs.Prelude.{◌≡◌, ◌⊎◌, ℕ, ◌<◌, ◌≤◌, List, Option, length, map, slice_index, slice_index_or}
use Rattle.fdb_lines.specs.declared.key_part.KeyPart.{KeyPart}
use Rattle.fdb_lines.specs.declared.line.Line.{Line}
use Rattle.fdb_lines.specs.Keys.{places_of}
use Rattle.fdb_lines.specs.Lines.{lines_in}
use Rattle.fdb_lines.specs.Watch.{HasSeen}

abbrev pub names_of : List KeyPart → List (Option ℕ)
names_of parts = map (λ (part : KeyPart). part.key) parts

abbrev pub lines_of_one : List Line → List (Option ℕ) → Option ℕ → List Line
lines_of_one lines keys key = lines_in lines (places_of keys key)

-- the watch of a key has seen the lines of the key, and for each that it keeps there is its number among all lines
pub record HasSeenOne (lines : List Line) (keys : List (Option ℕ)) (part : KeyPart) : Type 0 where
  pub seen : HasSeen part.watch (lines_of_one lines keys part.key)
  pub numbers : part.numbers.items ≡ map (slice_index (places_of keys part.key)) part.watch.numbers.items

-- With a line more each has settled as far as it had; one that is new has not.
pub record HasStayed (old new : KeyPart) : Type 0 where
  pub key : new.key ≡ old.key
  pub from : new.watch.from ≡ old.watch.from
  pub settled : new.watch.settled ≡ old.watch.settled

abbrev pub HaveStayed : List KeyPart → List KeyPart → Type 0
HaveStayed old new =
    (i : ℕ) (d : KeyPart) → i < length new
    → ((i < length old) × HasStayed (slice_index_or old i d) (slice_index_or new i d)) ⊎ ((length old ≤ i) × ((slice_index_or new i d).watch.from ≡ 0))
