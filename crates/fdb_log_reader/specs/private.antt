-- What a log and its names owe each other, and what a line has not. (this product's own)
pub mod Codes
pub mod Counting
pub mod Feeding
pub mod Following
pub mod Placing
pub mod Texts
pub mod Usual
use Rattle.std.specs.Prelude.{◌≡◌, ℕ, ◌≤◌, false, List, All, length, map, Option, IfSome, option_map}
use Rattle.serde_json.specs.Data.{Data, depth}
use Rattle.serde_json.specs.Read.{max_depth}
use Rattle.fdb_lines.specs.Lines.{Lines}
use Rattle.fdb_lines.specs.Log.{lines_of}
use Rattle.fdb_log_reader.specs.declared.named_log.NamedLog.{NamedLog}
use Rattle.fdb_log_reader.specs.Columns.{HasCells, KeyColumn, ShownColumn, column_of, shown_of}
use Rattle.fdb_log_reader.specs.Names.{names_of}
use Rattle.fdb_log_reader.specs.Reading.{Reading, is_line_feed}

-- there are no more keys than lines
abbrev pub HasFewKeys : Option KeyColumn → Lines → Type 0
HasFewKeys column log = IfSome column (λ column. length column.keys ≤ length log.lines)

-- each column that is shown has as many values
abbrev pub HaveCells : ℕ → List ShownColumn → Type 0
HaveCells lines columns = All (λ column. length column.values ≡ lines) columns

-- There are no more names and keys than lines, and each line has a key's cell, where keys are kept.
abbrev pub HasPlaces : NamedLog → Type 0
HasPlaces named =
    (length (names_of named.names) ≤ length (lines_of named.log).lines)
    × HasFewKeys (option_map column_of named.keys) (lines_of named.log)
    × HasCells (option_map column_of named.keys) (lines_of named.log)

-- and what is shown has a cell for each line
abbrev pub HasRoom : NamedLog → Type 0
HasRoom named = HasPlaces named × HaveCells (length (lines_of named.log).lines) (map shown_of named.shown.items)

-- what has been read, with these columns shown
abbrev pub shows : List ShownColumn → Reading → Reading
shows columns reading = record { log = reading.log; names = reading.names; keys = reading.keys; numbers = reading.numbers; shown = columns }

-- no member nests deeper than a JSON text may that is read
abbrev pub IsFlat : (List ℕ → Option Data) → Type 0
IsFlat says = (name : List ℕ) → IfSome (says name) (λ said. depth said ≤ max_depth)

-- none of some bytes is a line feed
abbrev pub IsOneLine : List ℕ → Type 0
IsOneLine bytes = All (λ byte. is_line_feed byte ≡ false) bytes
