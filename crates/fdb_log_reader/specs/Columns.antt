-- Members that are kept beside the calls, a cell for each line. (this product's own)
use Rattle.std.specs.Prelude.{◌≡◌, ℕ, ◌+◌, ◌-◌, Bool, true, nat_lt, List, [], ◌∷◌, ◌++◌, length, map, slice_get, string_bytes, Option, None, Some, IfSome, option_and_then, option_map, Result, Ok, Err, if◌then◌else◌}
use Rattle.std.specs.Option.{ok_or, option_flatten}
use Rattle.json.specs.Strict.{AreDistinct}
use Rattle.serde_json.specs.Data.{Data}
use Rattle.serde_json.specs.Read.{read}
use Rattle.fdb_lines.specs.Lines.{Lines}
use Rattle.fdb_log_reader.specs.declared.error.Why.{Why}
use Rattle.fdb_log_reader.specs.declared.error.Why.TheVariants.{BadKey, BadNumber}
use Rattle.fdb_log_reader.specs.declared.columns.Keys.{Keys}
use Rattle.fdb_log_reader.specs.declared.columns.OwnNumbers.{OwnNumbers}
use Rattle.fdb_log_reader.specs.declared.columns.TheConstants.{NUMBER_BYTES}
use Rattle.fdb_log_reader.specs.declared.reader.TheConstants.{MAX_LINE_BYTES}
use Rattle.fdb_log_reader.specs.declared.shown.Shown.{Shown}
use Rattle.fdb_log_reader.specs.Members.{and_then, as_count, as_name}
use Rattle.fdb_log_reader.specs.Names.{names_of}
use Rattle.fdb_log_reader.specs.Numbers.{client_in, with_client, AreWithin}
use Rattle.fdb_log_reader.specs.Printed.{shown_text, IsWritten}

-- the keys of lines: the member that names them, the keys in the order in which they came, and for each line the number
-- of its key, if it has one
pub record KeyColumn : Type 0 where
  pub member : List ℕ
  pub keys : List (List ℕ)
  pub numbers : List (Option ℕ)

-- what keys are kept as
abbrev pub column_of : Keys → KeyColumn
column_of keys = record { member = string_bytes keys.member; keys = names_of keys.names; numbers = keys.numbers.items }

-- no line's keys
abbrev pub no_keys : List ℕ → KeyColumn
no_keys member = record { member = member; keys = []; numbers = [] }

-- the keys, with that of a line more
abbrev pub with_key : KeyColumn → Option (List ℕ) → KeyColumn
with_key column key =
    let keys = with_client column.keys key in
    record { member = column.member; keys = keys; numbers = column.numbers ++ client_in keys key ∷ [] }

-- the key that a line names, as it names a client; it may leave it out
abbrev pub key_in : Option Data → Result (Option (List ℕ)) Why
key_in None = Ok None
key_in (Some said) = ok_or (option_map Some (as_name said)) BadKey

-- ---- what is shown of lines

-- what a further member of the lines says, where it is there
pub record ShownColumn : Type 0 where
  pub member : List ℕ
  pub values : List (Option Data)

-- what the text that has a number says as JSON
abbrev pub value_in : List (List ℕ) → Option ℕ → Option Data
value_in texts number = option_and_then (λ n. option_and_then read (slice_get texts n)) number

-- which text each line has
abbrev pub numbers_of : Shown → List (Option ℕ)
numbers_of shown = shown.numbers.items

-- what is shown: the texts are JSON, and are read
abbrev pub shown_of : Shown → ShownColumn
shown_of shown = record { member = string_bytes shown.member; values = map (value_in (names_of shown.texts)) (numbers_of shown) }

-- of no line
abbrev pub nothing_shown : List ℕ → ShownColumn
nothing_shown member = record { member = member; values = [] }

-- with what a line more says, if it says something
abbrev pub with_shown : ShownColumn → Option Data → ShownColumn
with_shown column said = record { member = column.member; values = column.values ++ said ∷ [] }

-- each column, with what a line more says
abbrev pub all_shown : (List ℕ → Option Data) → List ShownColumn → List ShownColumn
all_shown says columns = map (λ column. with_shown column (says column.member)) columns

-- the JSON text of what a line says, without white space: it is read as that
abbrev pub IsText : Option Data → Option (List ℕ) → Type 0
IsText said None = said ≡ None
IsText said (Some text) = (value : Data) × (said ≡ Some value) × (read text ≡ Some value) × IsWritten text value

-- the text of the line at a place, if it has one
abbrev pub text_at : List (List ℕ) → List (Option ℕ) → ℕ → Option (List ℕ)
text_at texts numbers place = option_and_then (slice_get texts) (option_flatten (slice_get numbers place))

-- What lines say, as it is printed, by the number that each has: JSON texts, each once, in which is escaped what steers a
-- terminal, parts the line or turns text round.
pub record ArePrinted (values : List (Option Data)) (texts : List (List ℕ)) (numbers : List (Option ℕ)) : Type 0 where
  pub json : List (List ℕ)
  pub printed : texts ≡ map shown_text json
  pub distinct : AreDistinct json
  pub within : AreWithin json numbers
  pub says : (place : ℕ) → IsText (option_flatten (slice_get values place)) (text_at json numbers place)

-- ---- the own numbers of lines

-- the member that has them, and the number of each line
pub record NumberColumn : Type 0 where
  pub member : List ℕ
  pub numbers : List ℕ

-- what they are kept as
abbrev pub numbers_in : OwnNumbers → NumberColumn
numbers_in own = record { member = string_bytes own.member; numbers = own.numbers.items }

-- of no line
abbrev pub no_numbers : List ℕ → NumberColumn
no_numbers member = record { member = member; numbers = [] }

-- a number is above the last one, if there is one
abbrev pub is_above : Option ℕ → ℕ → Bool
is_above None number = true
is_above (Some last) number = nat_lt last number

-- with the number of a line more, which has to have one above that of the line before
abbrev pub numbered_as : NumberColumn → Option ℕ → Result NumberColumn Why
numbered_as column None = Err BadNumber
numbered_as column (Some number) =
    if is_above (slice_get column.numbers (length column.numbers - 1)) number
    then Ok (record { member = column.member; numbers = column.numbers ++ number ∷ [] }) else Err BadNumber

-- with that which a line more says, where lines have numbers
abbrev pub numbered_on : (List ℕ → Option Data) → Option NumberColumn → Result (Option NumberColumn) Why
numbered_on beside None = Ok None
numbered_on beside (Some column) =
    and_then (numbered_as column (option_and_then as_count (beside column.member))) (λ more. Ok (Some more))

-- the most bytes of a line: beside its own number it has as many as without
abbrev pub most_bytes : Option NumberColumn → ℕ
most_bytes None = MAX_LINE_BYTES
most_bytes (Some column) = MAX_LINE_BYTES + NUMBER_BYTES

-- ---- for each line a cell

-- where keys are kept, each line has its cell
abbrev pub HasCells : Option KeyColumn → Lines → Type 0
HasCells column log = IfSome column (λ column. length column.numbers ≡ length log.lines)
