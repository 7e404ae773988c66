-- What becomes of a log that is cut into parts as it is read. (this product's own)
use Rattle.std.specs.Prelude.{◌≡◌, ℕ, ◌+◌, ◌<◌, List, [], ◌++◌, length, map, slice_index, slice_index_or, string_bytes, Ok}
use Rattle.fdb_log_reader.specs.declared.part_text.Above.{Above}
use Rattle.fdb_log_reader.specs.declared.part_text.PartText.{PartText}
use Rattle.fdb_log_reader.specs.declared.splitter.Placer.{Placer}
use Rattle.fdb_log_reader.specs.declared.splitter.Splitter.{Splitter}
use Rattle.fdb_log_reader.specs.Reading.{lines_in}
use Rattle.fdb_log_reader.specs.Split.{AllPlaced, Placed, in_front, of_part, placed_lines, text_of_part}

-- the texts that are held of the parts, and how many lines each has had
abbrev pub texts_in : List PartText → List (List ℕ)
texts_in parts = map (λ (part : PartText). part.text.items) parts

abbrev pub counts_in : List PartText → List ℕ
counts_in parts = map (λ (part : PartText). part.lines) parts

abbrev pub texts_of : Splitter → List (List ℕ)
texts_of splitter = texts_in splitter.placer.parts.items

abbrev pub counts_of : Splitter → List ℕ
counts_of splitter = counts_in splitter.placer.parts.items

-- what has been read of the log
abbrev pub above_of : Splitter → Above
above_of splitter = splitter.placer.above

-- where further lines are placed
abbrev pub lines_placed : Placer → List (List ℕ) → AllPlaced
lines_placed placer lines = placed_lines (string_bytes placer.member) (length placer.parts.items) placer.above lines

-- where all further lines are placed once the rest of the log has come too, whatever it is
abbrev pub placed_on : Splitter → List ℕ → AllPlaced
placed_on splitter rest = lines_placed splitter.placer (lines_in (splitter.front.items ++ rest))

-- These lines have come to the texts of their parts, each once, in order.
pub record HaveCome (placed : List Placed) (old new : List PartText) : Type 0 where
  pub as_many : length new ≡ length old
  pub texts : (part : ℕ) → part < length old
      → slice_index_or (texts_in new) part [] ≡ slice_index_or (texts_in old) part [] ++ text_of_part part placed
  pub counts : (part : ℕ) → part < length old
      → slice_index (counts_in new) part ≡ slice_index (counts_in old) part + length (of_part part placed)

-- of these bytes those lines have come to their parts, and the rest of the log is read on
pub record HasPlaced (old : Splitter) (bytes : List ℕ) (placed : List Placed) (new : Splitter) : Type 0 where
  pub goes : (rest : List ℕ) → placed_on old (bytes ++ rest) ≡ in_front placed (placed_on new rest)
  pub come : HaveCome placed old.placer.parts.items new.placer.parts.items

-- of these bytes, which are the last, those lines have come to their parts
pub record HasPlacedAll (old : Splitter) (placed : List Placed) (new : Splitter) : Type 0 where
  pub all : placed_on old [] ≡ Ok (placed, above_of new)
  pub come : HaveCome placed old.placer.parts.items new.placer.parts.items
