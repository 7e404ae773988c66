-- A log that is cut into parts by its keys: each line is one of a part, and says there where it stood. (this product's own)
use Rattle.std.specs.Prelude.{ℕ, ◌+◌, ◌*◌, ◌%◌, ◌^◌, ◌==◌, ◌&&◌, ◌||◌, not, min, bit_xor, Bool, nat_le, nat_lt, List, [], ◌∷◌, ◌++◌, codes, decimal, fold, length, Option, None, Some, is_some, option_map, Result, Ok, Err, if◌then◌else◌}
use Rattle.std.specs.List.{filter, flat_map, list_any}
use Rattle.std.specs.Option.{option_or}
use Rattle.serde_json.specs.Data.{Data}
use Rattle.serde_json.specs.Find.{get}
use Rattle.fdb_lines.specs.Lines.{are_known}
use Rattle.fdb_log_reader.specs.declared.part_text.Above.{Above}
use Rattle.fdb_log_reader.specs.declared.error.ReadError.{ReadError}
use Rattle.fdb_log_reader.specs.declared.error.Why.{Why}
use Rattle.fdb_log_reader.specs.declared.error.Why.TheVariants.{BadMember, SomeTimes, TooLong, TooMany}
use Rattle.fdb_log_reader.specs.declared.part_text.KeyedLine.{KeyedLine}
use Rattle.fdb_log_reader.specs.declared.member.Member.{Member}
use Rattle.fdb_log_reader.specs.declared.member.Member.TheVariants.{Client}
use Rattle.fdb_log_reader.specs.declared.reader.TheConstants.{MAX_LINE_BYTES}
use Rattle.fdb_log_reader.specs.Members.{and_then, member_of}
use Rattle.fdb_log_reader.specs.Parts.{SaidParts, parts_said}
use Rattle.fdb_log_reader.specs.Reading.{value_of}
use Rattle.fdb_log_reader.specs.ReadLine.{unless}

-- ---- of which part a key is

-- FNV-1a, of 64 bits: the hash of a key, byte by byte of its text as it is read
abbrev pub hash_step : ℕ → ℕ → ℕ
hash_step hash byte = (bit_xor hash byte * 0x100000001b3) % 2 ^ 64

abbrev pub hash_of : List ℕ → ℕ
hash_of key = fold hash_step 0xcbf29ce484222325 key

-- by the hash of its key, if it names one, a line is of one of so many parts; lines without a key are of the first
abbrev pub part_by : ℕ → Option ℕ → ℕ
part_by parts None = 0
part_by parts (Some hash) = hash % parts

-- all lines of a key are of one part
abbrev pub part_of_key : ℕ → Option (List ℕ) → ℕ
part_of_key parts key = part_by parts (option_map hash_of key)

-- ---- what is read of a line

-- whether a line has times, and one above it has none, or the other way round
abbrev pub is_other : Above → Bool → Bool
is_other above timed = if timed then is_some above.untimed else is_some above.timed

-- why a line may not stand there, if it may not: times are on all lines or on none, and one without has a client
abbrev pub refusal_below : Above → SaidParts → Option Why
refusal_below above parts =
    let timed = are_known parts.times in
    if is_other above timed then Some SomeTimes
    else (if timed || is_some parts.client then None else Some (BadMember Client))

-- what is kept of a line
abbrev pub keyed : SaidParts → KeyedLine
keyed parts = record { hash = option_map hash_of parts.key; is_timed = are_known parts.times }

-- by what its members say, and those beside them; of no line above it the names are kept, since where keys are none has learnt
abbrev pub keyed_said : List ℕ → Above → (Member → Option Data) → (List ℕ → Option Data) → Result KeyedLine Why
keyed_said member above says beside =
    and_then (parts_said [] (Some member) says beside) (λ parts. unless (refusal_below above parts) (keyed parts))

-- and by its bytes
abbrev pub keyed_line : List ℕ → Above → List ℕ → Result KeyedLine Why
keyed_line member above bytes = and_then (value_of bytes) (λ value. keyed_said member above (member_of value) (λ name. get name value))

-- ---- a line that says where it stood in its log

abbrev pub is_brace : ℕ → Bool
is_brace byte = byte == 125

-- a text, put in front of the last closing brace of a line
abbrev pub with_behind : List ℕ → List ℕ → List ℕ
with_behind text [] = []
with_behind text (byte ∷ bytes) =
    if is_brace byte && not (list_any is_brace bytes) then text ++ byte ∷ bytes else byte ∷ with_behind text bytes

-- a member that says where a line stood, counted from 1
abbrev pub split_line_member : ℕ → List ℕ
split_line_member split_line = codes ",\"split_line\":" ++ decimal split_line

-- the line with that behind its last member, byte by byte as it was else
abbrev pub with_split_line : List ℕ → ℕ → List ℕ
with_split_line bytes split_line = with_behind (split_line_member split_line) bytes

-- ---- the lines of the parts

-- The bytes of a line, where it stood, counted from 1, and of which part it is.
pub record Placed : Type 0 where
  pub part : ℕ
  pub line : ℕ
  pub bytes : List ℕ

-- it as one of its part, which ends with a line feed
abbrev pub placed_text : Placed → List ℕ
placed_text it = with_split_line it.bytes it.line ++ 10 ∷ []

-- the lines of a part, in the order in which they stood
abbrev pub of_part : ℕ → List Placed → List Placed
of_part part placed = filter (λ (it : Placed). it.part == part) placed

abbrev pub text_of_part : ℕ → List Placed → List ℕ
text_of_part part placed = flat_map placed_text (of_part part placed)

-- the last line that there may be
abbrev pub greatest_line : ℕ
greatest_line = 18446744073709551615

-- what stands above the next line: one line more, with times or without
abbrev pub next_above : Above → Bool → Above
next_above above timed =
    let line = above.count + 1 in
    record {
      count = line;
      timed = if timed then option_or above.timed (Some line) else above.timed;
      untimed = if timed then above.untimed else option_or above.untimed (Some line);
    }

-- what becomes of a line: where it is placed, and what stands above the next one
abbrev pub line_placed : List ℕ → ℕ → Above → List ℕ → Result (Placed × Above) Why
line_placed member parts above line =
    if nat_lt MAX_LINE_BYTES (length line) then Err TooLong
    else (if nat_le greatest_line above.count then Err TooMany
    else and_then (keyed_line member above line) (λ it.
    Ok (record { part = part_by parts it.hash; line = above.count + 1; bytes = line }, next_above above it.is_timed)))

-- the line below so many, but at most the last
abbrev pub line_below : ℕ → ℕ
line_below count = min (count + 1) greatest_line

-- What becomes of all lines of a log: where each is placed, in order, and what stands above a line behind them; or which is the
-- first that is refused.
abbrev pub AllPlaced : Type 0
AllPlaced = Result (List Placed × Above) ReadError

-- which line is refused, and why
abbrev pub refused_below : {T : Type 0} → Above → Result T Why → (T → AllPlaced) → AllPlaced
refused_below above (Ok read) next = next read
refused_below above (Err why) next = Err (record { line = line_below above.count; why = why })

-- some lines placed in front of others, which may be refused
abbrev pub in_front : List Placed → AllPlaced → AllPlaced
in_front placed (Ok more) = Ok (placed ++ more.0, more.1)
in_front placed (Err error) = Err error

-- Each line of a log once, in order, counted on from those above.
abbrev pub placed_lines : List ℕ → ℕ → Above → List (List ℕ) → AllPlaced
placed_lines member parts above [] = Ok ([], above)
placed_lines member parts above (line ∷ lines) =
    refused_below above (line_placed member parts above line) (λ it. in_front (it.0 ∷ []) (placed_lines member parts it.1 lines))

-- so many lines above, of which nothing is known
abbrev pub below : ℕ → Above
below count = record { count = count; timed = None; untimed = None }

-- ---- the key of a line

-- what a line says by itself, if it is not refused
abbrev pub said_alone : List ℕ → List ℕ → Result SaidParts Why
said_alone member line = and_then (value_of line) (λ value. parts_said [] (Some member) (member_of value) (λ name. get name value))

abbrev pub key_said_in : Result SaidParts Why → Option (List ℕ)
key_said_in (Ok parts) = parts.key
key_said_in (Err why) = None

-- the key that a line names, if it names one
abbrev pub key_of_line : List ℕ → List ℕ → Option (List ℕ)
key_of_line member line = key_said_in (said_alone member line)
