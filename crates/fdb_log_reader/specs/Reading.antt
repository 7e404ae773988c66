-- The log that a text of JSON Lines stands for. (this product's own)
use Rattle.std.specs.Prelude.{◌≡◌, ◌⊎◌, ℕ, ◌+◌, ◌==◌, Bool, false, nat_le, nat_lt, List, [], ◌∷◌, ◌++◌, length, map, Option, None, Some, option_map, Result, Ok, Err, if◌then◌else◌}
use Rattle.std.specs.List.{slice_split}
use Rattle.std.specs.Str.{is_utf8}
use Rattle.serde_json.specs.Data.{Data}
use Rattle.serde_json.specs.Find.{get}
use Rattle.serde_json.specs.Read.{read}
use Rattle.fdb_lines.specs.declared.line.Line.{Line}
use Rattle.fdb_lines.specs.declared.log.LineError.{LineError}
use Rattle.fdb_lines.specs.declared.log.LineError.TheVariants as refused
use Rattle.fdb_lines.specs.declared.log.TheConstants.{MAX_LINES}
use Rattle.fdb_lines.specs.Lines.{Lines}
use Rattle.fdb_lines.specs.Log.{added, lines_of, refusal_of}
use Rattle.fdb_log_reader.specs.declared.error.ReadError.{ReadError}
use Rattle.fdb_log_reader.specs.declared.error.Why.{Why}
use Rattle.fdb_log_reader.specs.declared.error.Why.TheVariants.{Empty, TooLong, TooMany, NotJson, SomeTimes, BadMember, Memory}
use Rattle.fdb_log_reader.specs.declared.member.Member.{Member}
use Rattle.fdb_log_reader.specs.declared.member.Member.TheVariants.{Client, Learn}
use Rattle.fdb_log_reader.specs.declared.named_log.NamedLog.{NamedLog}
use Rattle.fdb_log_reader.specs.Columns.{KeyColumn, NumberColumn, ShownColumn, all_shown, column_of, most_bytes, no_keys, no_numbers, nothing_shown, numbered_on, numbers_in, shown_of, with_key}
use Rattle.fdb_log_reader.specs.Members.{and_then, member_of}
use Rattle.fdb_log_reader.specs.Names.{names_of}
use Rattle.fdb_log_reader.specs.Numbers.{client_in, with_client}
use Rattle.fdb_log_reader.specs.Parts.{SaidParts, parts_said}

-- ---- the lines of a text, which line feeds end

abbrev pub is_line_feed : ℕ → Bool
is_line_feed byte = byte == 10

-- what stands after the last line feed is a line, unless it is empty
abbrev pub without_empty_end : List (List ℕ) → List (List ℕ)
without_empty_end [] = []
without_empty_end (line ∷ []) = if length line == 0 then [] else line ∷ []
without_empty_end (line ∷ next ∷ lines) = line ∷ without_empty_end (next ∷ lines)

abbrev pub lines_in : List ℕ → List (List ℕ)
lines_in bytes = without_empty_end (slice_split is_line_feed bytes)

-- a text ends where a line does: what comes behind it is a line of its own
abbrev pub EndsALine : List ℕ → Type 0
EndsALine text = length (lines_in (text ++ 32 ∷ [])) ≡ length (lines_in text) + 1

-- ---- what has been read with a line more, or why that is refused

-- what has been read: the lines of a log, the names of its clients, the lines' keys if they are kept, their own numbers if
-- they have such, and what is shown beside them
pub record Reading : Type 0 where
  pub log : Lines
  pub names : List (List ℕ)
  pub keys : Option KeyColumn
  pub numbers : Option NumberColumn
  pub shown : List ShownColumn

-- why a line is refused that the log does not take
abbrev pub why_of : LineError → Why
why_of refused.TooMany = TooMany
why_of refused.SomeTimes = SomeTimes
why_of refused.TimedLearn = BadMember Learn
why_of refused.NoClient = BadMember Client
why_of refused.Memory = Memory

abbrev pub added_unless : Option LineError → Lines → Line → Result Lines Why
added_unless None log line = Ok (added log line)
added_unless (Some error) log line = Err (why_of error)

abbrev pub pushed : Lines → Line → Result Lines Why
pushed log line = added_unless (refusal_of log line) log line

-- what has been read with a line more that says this
abbrev pub with_parts : Reading → (List ℕ → Option Data) → SaidParts → Result Reading Why
with_parts reading beside parts =
    let names = with_client reading.names parts.client in
    and_then (pushed reading.log (record { client = client_in names parts.client; call = parts.call; times = parts.times })) (λ log.
    Ok (record { log = log; names = names; keys = option_map (λ column. with_key column parts.key) reading.keys; numbers = reading.numbers; shown = all_shown beside reading.shown }))

-- by what its members say, and those beside them
abbrev pub with_said : Reading → (Member → Option Data) → (List ℕ → Option Data) → Result Reading Why
with_said reading says beside =
    and_then (parts_said reading.names (option_map (λ column. column.member) reading.keys) says beside) (with_parts reading beside)

-- and with its own number, where lines have such
abbrev pub with_own_number : (List ℕ → Option Data) → Reading → Result Reading Why
with_own_number beside reading =
    and_then (numbered_on beside reading.numbers) (λ numbers.
    Ok (record { log = reading.log; names = reading.names; keys = reading.keys; numbers = numbers; shown = reading.shown }))

-- by its JSON value
abbrev pub with_value : Reading → Data → Result Reading Why
with_value reading value =
    and_then (with_said reading (member_of value) (λ name. get name value)) (with_own_number (λ name. get name value))

abbrev pub or_not_json : Option Data → Result Data Why
or_not_json None = Err NotJson
or_not_json (Some value) = Ok value

-- The value of a line, which `serde_json` reads by itself. Bytes that are no UTF-8 have none.
abbrev pub value_of : List ℕ → Result Data Why
value_of bytes = or_not_json (if is_utf8 bytes then read bytes else None)

-- what has been read with a line more, by its bytes
abbrev pub with_line : Reading → List ℕ → Result Reading Why
with_line reading bytes =
    if nat_lt (most_bytes reading.numbers) (length bytes) then Err TooLong
    else (if nat_le MAX_LINES (length reading.log.lines) then Err TooMany
    else and_then (value_of bytes) (with_value reading))

-- ---- what a text stands for, read line by line

-- what comes of a line that was read, or that it is refused
abbrev pub or_refused : ℕ → Result Reading Why → (Reading → Result Reading ReadError) → Result Reading ReadError
or_refused line (Ok reading) next = next reading
or_refused line (Err why) next = Err (record { line = line; why = why })

-- what a text stands for that ends here: one without a line stands for no log
abbrev pub at_end : Reading → Result Reading ReadError
at_end reading = if length reading.log.lines == 0 then Err (record { line = 0; why = Empty }) else Ok reading

-- what a text stands for that has these lines more, or the first that is refused, counted from 1
abbrev pub with_lines : Reading → List (List ℕ) → Result Reading ReadError
with_lines reading [] = at_end reading
with_lines reading (line ∷ lines) =
    or_refused (length reading.log.lines + 1) (with_line reading line) (λ more. with_lines more lines)

-- of nothing, where a member has the keys, if they are kept, one has the numbers of lines, if they have their own, and these
-- columns are shown
abbrev pub nothing : Option (List ℕ) → Option (List ℕ) → List ShownColumn → Reading
nothing key number shown = record { log = record { timed = false; lines = [] }; names = []; keys = option_map no_keys key; numbers = option_map no_numbers number; shown = shown }

-- what a text stands for, of which the members of these names are shown: what is read of all its lines, of which it
-- needs one, or the first that is refused
abbrev pub reading_with : (key : Option (List ℕ)) → (shown : List (List ℕ)) → (number : Option (List ℕ)) → List ℕ → Result Reading ReadError
reading_with key shown number bytes = with_lines (nothing key number (map nothing_shown shown)) (lines_in bytes)

-- and where none are kept
abbrev pub reading_in : List ℕ → Result Reading ReadError
reading_in bytes = reading_with None [] None bytes

-- what a log with names stands for
abbrev pub reading_of : NamedLog → Reading
reading_of named = record { log = lines_of named.log; names = names_of named.names; keys = option_map column_of named.keys; numbers = option_map numbers_in named.numbers; shown = map shown_of named.shown.items }

-- the result stands for this, unless memory was refused
abbrev pub StandsFor : Result NamedLog ReadError → Result Reading ReadError → Type 0
StandsFor (Ok named) exact = exact ≡ Ok (reading_of named)
StandsFor (Err error) exact = (error.why ≡ Memory) ⊎ (exact ≡ Err error)

-- what was read of these bytes is what they stand for, unless memory was refused
abbrev pub ReadsAs : List ℕ → Result NamedLog ReadError → Type 0
ReadsAs bytes result = StandsFor result (reading_in bytes)
