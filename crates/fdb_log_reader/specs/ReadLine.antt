-- What a line says that is read by itself: of the lines above it only the names are kept. (this product's own)
use Rattle.std.specs.Prelude.{◌≡◌, ℕ, ◌<◌, ◌||◌, Bool, not, nat_le, nat_lt, true, List, [], ◌∷◌, All, length, map, string_bytes, String, Option, None, Some, IfOk, IfSome, IsSomeAnd, option_and_then, option_map, Result, Ok, Err, if◌then◌else◌}
use Rattle.std.specs.declared.alloc.Global.{Global}
use Rattle.serde_json.specs.Data.{Data}
use Rattle.serde_json.specs.Find.{get}
use Rattle.serde_json.specs.Read.{read}
use Rattle.fdb_lines.specs.declared.line.Line.{Line}
use Rattle.fdb_lines.specs.declared.log.TheConstants.{MAX_LINES}
use Rattle.fdb_lines.specs.Lines.{are_known, has_times, is_learn, kind_of}
use Rattle.fdb_log_reader.specs.declared.error.Why.{Why}
use Rattle.fdb_log_reader.specs.declared.error.Why.TheVariants.{BadMember, SomeTimes, TooLong, TooMany}
use Rattle.fdb_log_reader.specs.declared.read_line.KnownKeys.{KnownKeys}
use Rattle.fdb_log_reader.specs.declared.read_line.KnownNames.{KnownNames}
use Rattle.fdb_log_reader.specs.declared.member.Member.{Member}
use Rattle.fdb_log_reader.specs.declared.member.Member.TheVariants.{Learn}
use Rattle.fdb_log_reader.specs.declared.read_line.ReadLine.{ReadLine}
use Rattle.fdb_log_reader.specs.declared.reader.TheConstants.{MAX_LINE_BYTES}
use Rattle.fdb_log_reader.specs.Columns.{IsText}
use Rattle.fdb_log_reader.specs.Members.{and_then, member_of}
use Rattle.fdb_log_reader.specs.Names.{names_of}
use Rattle.fdb_log_reader.specs.Numbers.{client_in, with_client}
use Rattle.fdb_log_reader.specs.Parts.{SaidParts, parts_said}
use Rattle.fdb_log_reader.specs.Reading.{value_of}

-- ---- the names of the lines so far

-- the keys, in the order in which they came, and the member that names them
pub record MemberNames : Type 0 where
  pub member : List ℕ
  pub names : List (List ℕ)

-- the names of clients, and the keys, if they are kept
pub record LineNames : Type 0 where
  pub clients : List (List ℕ)
  pub keys : Option MemberNames

-- of no line, where a member has the keys, if they are kept
abbrev pub no_names : Option (List ℕ) → LineNames
no_names key = record { clients = []; keys = option_map (λ member. record { member = member; names = [] }) key }

-- the member that has the keys, if they are kept
abbrev pub member_in : LineNames → Option (List ℕ)
member_in names = option_map (λ keys. keys.member) names.keys

abbrev pub with_known : Option (List ℕ) → MemberNames → MemberNames
with_known key keys = record { member = keys.member; names = with_client keys.names key }

-- the names, with those of a line more
abbrev pub with_names : LineNames → SaidParts → LineNames
with_names names parts = record { clients = with_client names.clients parts.client; keys = option_map (with_known parts.key) names.keys }

-- the number of a key, where keys are kept
abbrev pub key_number : Option MemberNames → Option (List ℕ) → Option ℕ
key_number keys key = option_and_then (λ keys. client_in keys.names key) keys

abbrev pub key_count : Option MemberNames → ℕ
key_count None = 0
key_count (Some keys) = length keys.names

-- whether there are as many names of clients or keys as there may be
abbrev pub are_full : LineNames → Bool
are_full names = nat_le MAX_LINES (length names.clients) || nat_le MAX_LINES (key_count names.keys)

-- ---- what a line says

-- the line, its client numbered; the number of its key, if it has one; and what is shown of it, member by member
pub record SaidLine : Type 0 where
  pub line : Line
  pub key : Option ℕ
  pub shown : List (Option Data)

-- the line, once its names are among the names
abbrev pub numbered : LineNames → SaidParts → List (Option Data) → SaidLine
numbered names parts shown = record {
  line = record { client = client_in names.clients parts.client; call = parts.call; times = parts.times };
  key = key_number names.keys parts.key;
  shown = shown;
}

-- Why a line is refused that is read by itself, if it is: it needs times, and with times none has learnt.
abbrev pub refusal_alone : SaidParts → Option Why
refusal_alone parts =
    if not (are_known parts.times) then Some SomeTimes
    else (if is_learn (kind_of parts.call) then Some (BadMember Learn) else None)

abbrev pub unless : {T : Type 0} → Option Why → T → Result T Why
unless None read = Ok read
unless (Some why) read = Err why

-- what a line says, and the names behind it
abbrev pub line_with : List (List ℕ) → LineNames → (List ℕ → Option Data) → SaidParts → Result (SaidLine × LineNames) Why
line_with shown names beside parts =
    let more = with_names names parts in
    unless (refusal_alone parts) (numbered more parts (map beside shown), more)

-- by what its members say, and those beside them
abbrev pub line_said : List (List ℕ) → LineNames → (Member → Option Data) → (List ℕ → Option Data) → Result (SaidLine × LineNames) Why
line_said shown names says beside =
    and_then (parts_said names.clients (member_in names) says beside) (line_with shown names beside)

-- and by its bytes, where the members of these names are to be shown
abbrev pub line_read : List (List ℕ) → LineNames → List ℕ → Result (SaidLine × LineNames) Why
line_read shown names bytes =
    if nat_lt MAX_LINE_BYTES (length bytes) then Err TooLong
    else (if are_full names then Err TooMany
    else and_then (value_of bytes) (λ value. line_said shown names (member_of value) (λ name. get name value)))

-- ---- what lines say, one by one

abbrev pub line_in : Result (SaidLine × LineNames) Why → Result SaidLine Why
line_in (Ok read) = Ok read.0
line_in (Err why) = Err why

-- the names behind a line: one that is refused has added none
abbrev pub names_after : LineNames → Result (SaidLine × LineNames) Why → LineNames
names_after names (Ok read) = read.1
names_after names (Err why) = names

-- what becomes of each of some lines: what it says, or why it is refused
abbrev pub lines_read : List (List ℕ) → LineNames → List (List ℕ) → List (Result SaidLine Why)
lines_read shown names [] = []
lines_read shown names (line ∷ lines) =
    let read = line_read shown names line in
    line_in read ∷ lines_read shown (names_after names read) lines

-- and the names behind them
abbrev pub names_behind : List (List ℕ) → LineNames → List (List ℕ) → LineNames
names_behind shown names [] = names
names_behind shown names (line ∷ lines) = names_behind shown (names_after names (line_read shown names line)) lines

-- ---- what a line was read as

abbrev pub keys_of : KnownKeys → MemberNames
keys_of keys = record { member = string_bytes keys.member; names = names_of keys.names }

abbrev pub known_of : KnownNames → LineNames
known_of names = record { clients = names_of names.clients; keys = option_map keys_of names.keys }

-- what a text says as JSON
abbrev pub text_says : Option (String Global) → Option Data
text_says text = option_and_then (λ text. read (string_bytes text)) text

-- what a line says, with these values shown
abbrev pub showing : List (Option Data) → SaidLine → SaidLine
showing values said = record { line = said.line; key = said.key; shown = values }

-- what was read of a line
abbrev pub said_by : ReadLine → SaidLine
said_by read = record { line = read.line; key = read.key; shown = map text_says read.shown.items }

-- and of one that may be refused
abbrev pub said_in : Result ReadLine Why → Result SaidLine Why
said_in (Ok read) = Ok (said_by read)
said_in (Err why) = Err why

-- each text that is shown is JSON without white space, read as what the line says
abbrev pub HasTexts : ReadLine → Type 0
HasTexts read = All (λ text. IsText (text_says text) (option_map string_bytes text)) read.shown.items

-- it has times
abbrev pub IsTimed : ReadLine → Type 0
IsTimed read = has_times read.line ≡ true

-- the numbers of its client and its key are those of names
abbrev pub IsNumbered : LineNames → SaidLine → Type 0
IsNumbered names said =
    IfSome said.line.client (λ client. client < length names.clients)
    × IfSome said.key (λ key. IsSomeAnd names.keys (λ keys. key < length keys.names))

-- a line was read as this, and behind it are these names
pub record ReadsLine (shown : List (List ℕ)) (names : LineNames) (bytes : List ℕ) (read : Result ReadLine Why) (more : LineNames) : Type 0 where
  pub said : line_in (line_read shown names bytes) ≡ said_in read
  pub after : names_after names (line_read shown names bytes) ≡ more
  pub texts : IfOk read HasTexts
