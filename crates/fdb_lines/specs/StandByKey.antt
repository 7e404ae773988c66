-- Lines that stand for all of a log with keys: of each key, those of its lines do. (this product's own)
use Rattle.std.specs.Prelude.{◌==◌, ◌≡◌, ℕ, ◌<◌, not, List, Option, Some, length, map, slice_index}
use Rattle.std.specs.Option.{option_eq}
use Rattle.std.specs.List.{filter}
use Rattle.fdb_lines.specs.declared.fault.Found.{Found}
use Rattle.fdb_lines.specs.declared.line.Line.{Line}
use Rattle.fdb_lines.specs.Carried.{StandFor}
use Rattle.fdb_lines.specs.KeyParts.{lines_of_one}
use Rattle.fdb_lines.specs.Keys.{key_at, place_among}
use Rattle.fdb_lines.specs.Lines.{line_at}
use Rattle.fdb_lines.specs.ToldByKey.{audited}
use Rattle.fdb_lines.specs.Watching.{begins_before}

-- the keys of the lines at some places
abbrev pub keys_in : List (Option ℕ) → List ℕ → List (Option ℕ)
keys_in keys places = map (key_at keys) places

-- of some places, those at which a line of a key stands, each by its place among the lines of that key
abbrev pub kept_of : List (Option ℕ) → List ℕ → Option ℕ → List ℕ
kept_of keys places key = map (place_among keys) (filter (λ k. option_eq ◌==◌ (key_at keys k) key) places)

-- The lines at some places stand for all from a moment on: of each key those that are among them stand for all of the key.
pub record StandForByKey (margin at : ℕ) (lines : List Line) (keys : List (Option ℕ)) (places : List ℕ) : Type 0 where
  pub as_many : length keys ≡ length lines
  pub within : (i : ℕ) → i < length places → slice_index places i < length lines
  pub each : (key : Option ℕ) → StandFor margin at (lines_of_one lines keys key) (kept_of keys places key)

-- What an audit of all lines finds, each key by itself, of that what stands at lines that began from a moment on.
abbrev pub audited_from : ℕ → ℕ → List Line → List (Option ℕ) → List Found
audited_from margin from lines keys = filter (λ (found : Found). not (begins_before (Some from) (line_at lines found.place))) (audited margin lines keys)
