-- How the lines of a log come to its parts. (this product's own)
use Rattle.std.specs.Prelude.{◌≡◌, ◌⊎◌, ℕ, false, List, [], ◌∷◌, ◌++◌, length, string_bytes, Result, Ok, Err}
use Rattle.std.specs.List.{list_any}
use Rattle.fdb_log_reader.specs.declared.error.ReadError.{ReadError}
use Rattle.fdb_log_reader.specs.declared.error.Why.TheVariants.{Memory}
use Rattle.fdb_log_reader.specs.declared.splitter.Placer.{Placer}
use Rattle.fdb_log_reader.specs.declared.splitter.Splitter.{Splitter}
use Rattle.fdb_log_reader.specs.Split.{Placed, in_front, is_brace, line_placed}
use Rattle.fdb_log_reader.specs.Splitter.{HaveCome, placed_on}

-- a line is split in front of its last closing brace
abbrev pub IsSplitAtBrace : List ℕ → List ℕ → List ℕ → Type 0
IsSplitAtBrace line front behind = (rest : List ℕ) × (line ≡ front ++ behind) × (behind ≡ 125 ∷ rest) × (list_any is_brace rest ≡ false)

-- a line has come to its part
pub record PlacesOne (old : Placer) (line : List ℕ) (one : Placed) (new : Placer) : Type 0 where
  pub placed : line_placed (string_bytes old.member) (length old.parts.items) old.above line ≡ Ok (one, new.above)
  pub member : string_bytes new.member ≡ string_bytes old.member
  pub come : HaveCome (one ∷ []) old.parts.items new.parts.items

-- a line and its feed are read, or refused, or memory is
abbrev pub PlacesLine : Splitter → List ℕ → Result Splitter ReadError → Type 0
PlacesLine splitter line (Ok it) =
    (one : Placed) × ((rest : List ℕ) → placed_on splitter (line ++ 10 ∷ rest) ≡ in_front (one ∷ []) (placed_on it rest))
    × HaveCome (one ∷ []) splitter.placer.parts.items it.placer.parts.items
PlacesLine splitter line (Err error) = (error.why ≡ Memory) ⊎ ((rest : List ℕ) → placed_on splitter (line ++ 10 ∷ rest) ≡ Err error)

-- and bytes of a line that has not ended
abbrev pub KeepsBytes : Splitter → List ℕ → Result Splitter ReadError → Type 0
KeepsBytes splitter bytes (Ok it) =
    ((rest : List ℕ) → placed_on splitter (bytes ++ rest) ≡ placed_on it rest) × (it.placer ≡ splitter.placer)
KeepsBytes splitter bytes (Err error) = (error.why ≡ Memory) ⊎ ((rest : List ℕ) → placed_on splitter (bytes ++ rest) ≡ Err error)

-- Of some bytes these lines have come to their parts, and this rest of them is read on.
pub record Goes (old : Splitter) (bytes : List ℕ) (placed : List Placed) (new : Splitter) (rest : List ℕ) : Type 0 where
  pub goes : (more : List ℕ) → placed_on old (bytes ++ more) ≡ in_front placed (placed_on new (rest ++ more))
  pub come : HaveCome placed old.placer.parts.items new.placer.parts.items
