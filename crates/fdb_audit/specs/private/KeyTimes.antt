-- Which keys are to be forgotten, by when their lines came. (this product's own)
use Rattle.std.specs.Prelude.{◌≡◌, ◌≢◌, ◌⊎◌, ℕ, ◌-◌, ◌&&◌, ◌||◌, max, nat_le, Bool, false, true, Option, None, Some, slice_get, unwrap_or}
use Rattle.fdb_lines.specs.declared.line.Line.{Line}
use Rattle.fdb_lines.specs.Before.{began, ended}
use Rattle.fdb_audit.specs.declared.clocks.KeyTimes.{KeyTimes}
use Rattle.fdb_audit.specs.declared.clocks.LastLine.{LastLine}

-- the last line of a key came within a while, or has an end that is as near
abbrev pub is_near : (after believed : ℕ) → LastLine → Bool
is_near after believed last = nat_le (believed - last.seen) after || (nat_le (believed - last.end) after && nat_le (last.end - believed) after)

abbrev pub is_new : (after believed : ℕ) → Option LastLine → Bool
is_new after believed None = true
is_new after believed (Some last) = is_near after believed last

-- a key is not to be forgotten
abbrev pub is_staying : KeyTimes → (forget : Option ℕ) → (believed : ℕ) → (key : Option ℕ) → Bool
is_staying times None believed key = true
is_staying times (Some after) believed None = true
is_staying times (Some after) believed (Some key) = is_new after believed (slice_get times.last.items key)

-- ---- a line more

-- when a line came, where ends were believed that far then
abbrev pub last_line : (believed : ℕ) → Line → LastLine
last_line believed line = record { seen = believed; end = unwrap_or (ended line) (began line) }

-- the last line of a key with one more, behind what there was of it
abbrev pub latest : Option LastLine → LastLine → LastLine
latest None line = line
latest (Some last) line = record { seen = line.seen; end = max last.end line.end }

-- as if it had just come
abbrev pub seen_when : (believed : ℕ) → LastLine → LastLine
seen_when believed last = record { seen = believed; end = last.end }

-- A line of a key came: of others there is what there was, or they came in with it.
pub record NotesKey (key : ℕ) (line : LastLine) (old new : KeyTimes) : Type 0 where
  pub its : slice_get new.last.items key ≡ Some (latest (slice_get old.last.items key) line)
  pub others : (other : ℕ) → other ≢ key
      → (slice_get new.last.items other ≡ slice_get old.last.items other)
      ⊎ ((slice_get old.last.items other ≡ None) × (slice_get new.last.items other ≡ Some line))

-- It is noted where keys may be forgotten.
abbrev pub NotesIf : Bool → (key : ℕ) → LastLine → (old new : KeyTimes) → Type 0
NotesIf false key line old new = new ≡ old
NotesIf true key line old new = NotesKey key line old new

-- and where it has a key
abbrev pub HearsKey : (key : Option ℕ) → LastLine → (old new : KeyTimes) → Type 0
HearsKey None line old new = new ≡ old
HearsKey (Some key) line old new = NotesIf old.are_wanted key line old new
