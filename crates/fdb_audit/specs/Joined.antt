-- A log whose parts are audited by themselves. (this product's own)
use Rattle.std.specs.Prelude.{◌≡◌, ℕ, ◌<◌, ◌==◌, List, [], Option, None, Some, Ok, length, map, option_and_then, slice_index, slice_index_or}
use Rattle.fdb_lines.specs.declared.log.AuditOpts.{AuditOpts}
use Rattle.fdb_lines.specs.Carried.{places_where}
use Rattle.fdb_lines.specs.Judged.{faults_in}
use Rattle.fdb_lines.specs.Keys.{key_at}
use Rattle.fdb_lines.specs.Lines.{line_at}
use Rattle.fdb_log_reader.specs.Columns.{KeyColumn}
use Rattle.fdb_log_reader.specs.Named.{Named, named}
use Rattle.fdb_log_reader.specs.ReadLine.{LineNames, MemberNames}
use Rattle.fdb_log_reader.specs.Reading.{Reading, reading_with}
use Rattle.fdb_audit.specs.Judged.{keys_of_lines, own_numbers}
use Rattle.fdb_audit.specs.Text.{fault_of, printed_line}
use Rattle.fdb_audit.specs.declared.printer.LogFault.{LogFault}

-- some text was read so, with the keys of its lines
abbrev pub WasReadByKey : Reading → Type 0
WasReadByKey reading =
    (member : List ℕ) × (shown : List (List ℕ)) × (number : Option (List ℕ)) × (bytes : List ℕ) × (reading_with (Some member) shown number bytes ≡ Ok reading)

-- what an audit by key finds, each fault by its line
abbrev pub faults_by_number : AuditOpts → Reading → List LogFault
faults_by_number opts reading = map (fault_of (own_numbers reading.numbers)) (faults_in reading.log (keys_of_lines reading.keys) opts)

-- and in a part of a log, if it has a line
abbrev pub faults_of_part : AuditOpts → Option Reading → List LogFault
faults_of_part opts None = []
faults_of_part opts (Some part) = faults_by_number opts part

-- the names of clients and keys
abbrev pub key_names : Option KeyColumn → Option MemberNames
key_names None = None
key_names (Some column) = Some (record { member = column.member; names = column.keys })

abbrev pub names_read : Reading → LineNames
names_read reading = record { clients = reading.names; keys = key_names reading.keys }

-- what a line says, whatever numbers its client and its key have
abbrev pub named_line : Reading → ℕ → Named
named_line reading k = named (names_read reading) (line_at reading.log.lines k) (option_and_then (λ (column : KeyColumn). key_at column.numbers k) reading.keys)

-- Lines are those of a log at some places: they say the same, line by line, and are told as the same.
pub record IsPartOf (whole part : Reading) (places : List ℕ) : Type 0 where
  pub as_many : length part.log.lines ≡ length places
  pub says : (j : ℕ) → j < length places → named_line part j ≡ named_line whole (slice_index places j)
  pub own : (j : ℕ) → j < length places → printed_line (own_numbers part.numbers) j ≡ printed_line (own_numbers whole.numbers) (slice_index places j)

-- the places of the lines of a part, in order, where a rule says by its key of which part a line is
abbrev pub places_of_part : (Option (List ℕ) → ℕ) → Reading → ℕ → List ℕ
places_of_part rule whole part = places_where (λ k. rule (named_line whole k).key == part) (length whole.log.lines)

-- Of a part without a line there is nothing to read.
abbrev pub IsPartIfAny : Reading → Option Reading → List ℕ → Type 0
IsPartIfAny whole None places = places ≡ []
IsPartIfAny whole (Some part) places = IsPartOf whole part places

-- A log is divided into parts by the keys of its lines: each part at its number, or none where it has no line.
pub record ArePartsOf (rule : Option (List ℕ) → ℕ) (whole : Reading) (parts : List (Option Reading)) : Type 0 where
  pub all : (k : ℕ) → k < length whole.log.lines → rule (named_line whole k).key < length parts
  pub each : (i : ℕ) → i < length parts → IsPartIfAny whole (slice_index_or parts i None) (places_of_part rule whole i)
