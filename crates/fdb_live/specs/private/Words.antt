-- How the cell keeps the record and its position. (this product's own)
use Rattle.std.specs.Prelude.{ℕ, ◌+◌, ◌==◌, Bool, not, Option, None, Some, List, [], ◌∷◌, ◌++◌, take, drop, if◌then◌else◌, bit_and}
use Rattle.std.specs.Int.{w16, w64, to_be_bytes, from_be_bytes}
use Rattle.fdb_history.specs.declared.register.Record.{Record}
use Rattle.fdb_live.specs.declared.held.Fetched.{Fetched}
use Rattle.fdb_live.specs.declared.held.Held.{Held}

-- Bit 0 says that the database is locked, bit 1 that there is a metadata version.
abbrev pub has_metadata : Option (List ℕ) → ℕ
has_metadata None = 0
has_metadata (Some metadata) = 2

abbrev pub flags_of : Record → ℕ
flags_of rec = (if rec.locked then 1 else 0) + has_metadata rec.metadata

-- The first eight bytes of the metadata version as a number, the first byte the highest, and 0
-- where there is none.
abbrev pub first_word : Option (List ℕ) → ℕ
first_word None = 0
first_word (Some metadata) = from_be_bytes w64 (take 8 metadata)

-- The last two bytes of the metadata version as a number, likewise.
abbrev pub second_word : Option (List ℕ) → ℕ
second_word None = 0
second_word (Some metadata) = from_be_bytes w16 (drop 8 metadata)

abbrev pub held_of : Fetched → Held
held_of fetched = record {
  position = fetched.position;
  version = fetched.rec.version;
  flags = flags_of fetched.rec;
  first_metadata = first_word fetched.rec.metadata;
  second_metadata = second_word fetched.rec.metadata;
  min_known = fetched.rec.min_known;
}

-- And what they say: eight bytes of the first word, and the two lowest ones of the second.
abbrev pub metadata_of : ℕ → ℕ → List ℕ
metadata_of first second = to_be_bytes w64 first ++ to_be_bytes w16 second

abbrev pub is_set : ℕ → ℕ → Bool
is_set flag flags = not (bit_and flags flag == 0)

abbrev pub fetched_of : Held → Fetched
fetched_of held = record {
  rec = record {
    version = held.version;
    locked = is_set 1 held.flags;
    metadata =
        if is_set 2 held.flags
        then Some (metadata_of held.first_metadata held.second_metadata)
        else None;
    min_known = held.min_known;
  };
  position = held.position;
}

-- Six words: the position, the version, the flags, the two of the metadata version and the minimum
-- known committed version.
abbrev pub words_of : Held → List ℕ
words_of held =
    held.position ∷ held.version ∷ held.flags ∷ held.first_metadata ∷ held.second_metadata
    ∷ held.min_known ∷ []
