-- What the program promises of itself that cuts a log into parts. (this product's own)
use Rattle.std.specs.Prelude.{◌≡◌, ◌≢◌, ◌≤◌, ◌<◌, ℕ, ◌++◌, ◌&&◌, Bool, false, true, List, [], ◌∷◌, Option, None, Some, Ok, Err, codes, is_some, length, option_map, pos, slice_index, string_bytes}
use Rattle.std.specs.Str.Parse.{digits_value, without_leading_plus}
use Rattle.std.specs.declared.convert.Infallible.{Infallible}
use Rattle.clap.specs.Words.{App, Text, first_of, matches_of, one_of}
use Rattle.fdb_command.specs.Arguments.{command_of, file_rule, flag_rule, is_set, number_rule}
use Rattle.fdb_command.specs.Driving.{Promise}
use Rattle.fdb_command.specs.declared.failure.Failure.TheVariants.{Writing}
use Rattle.fdb_audit.specs.Program.{text_rule}
use Rattle.fdb_audit.specs.declared.refusal.LogsRefused.{LogsRefused}
use Rattle.fdb_audit.specs.declared.refusal.LogsRefused.TheVariants.{Early, Kept, Log}
use Rattle.fdb_log_reader.specs.declared.part_text.Above.{Above}
use Rattle.fdb_log_reader.specs.declared.error.Why.TheVariants.{Memory}
use Rattle.fdb_log_reader.specs.declared.splitter.Splitter.{Splitter}
use Rattle.fdb_log_reader.specs.Members.{written}
use Rattle.fdb_log_reader.specs.Reading.{lines_in}
use Rattle.fdb_log_reader.specs.Split.{AllPlaced, Placed, below, in_front, of_part, placed_lines}
use Rattle.fdb_log_reader.specs.Splitter.{counts_of, placed_on, texts_of}
use Rattle.fdb_split.specs.Text.{split_text}
use Rattle.fdb_split.specs.declared.split_arguments.SplitArguments.{SplitArguments}
use Rattle.fdb_split.specs.declared.split_program.TheConstants.{MAX_SPLIT_BYTES}
use Rattle.fdb_split.specs.declared.splitting.Splitting.{Splitting}

-- LOGS, --split P, --into DIR, --key MEMBER, --first N and --progress
abbrev pub command : App
command = command_of (codes "fdb_audit")
    (file_rule ∷ number_rule (codes "split") (pos 1) (pos 1024) ∷ text_rule (codes "into") ∷ text_rule (codes "key")
    ∷ text_rule (codes "first") ∷ flag_rule (codes "progress") ∷ [])

-- how many parts there are to be, if that is said
abbrev pub parts_named : List Text → Option ℕ
parts_named arguments =
    option_map (λ digits. digits_value 10 (without_leading_plus digits)) (one_of (codes "split") (matches_of command arguments))

-- the text that an argument gives, if it is given
abbrev pub text_named : Text → List Text → Option Text
text_named name arguments = first_of name (matches_of command arguments)

-- a number of lines, in digits alone, below 2^64; none where it is not given
abbrev pub count_in : Option Text → Option ℕ
count_in None = Some 0
count_in (Some text) = written text

-- how many lines are above
abbrev pub first_named : List Text → Option ℕ
first_named arguments = count_in (text_named (codes "first") arguments)

-- what the arguments say
pub record AskFor (arguments : List Text) (asked : SplitArguments) : Type 0 where
  pub parts : parts_named arguments ≡ Some asked.parts
  pub into : text_named (codes "into") arguments ≡ Some (string_bytes asked.into)
  pub key : text_named (codes "key") arguments ≡ Some (string_bytes asked.key)
  pub first : first_named arguments ≡ Some asked.first
  pub progress : asked.progress ≡ is_set (codes "progress") command arguments

-- they say how many parts there are to be, where, and by which member
abbrev pub suits : List Text → Bool
suits arguments =
    is_some (parts_named arguments)
    && (is_some (text_named (codes "into") arguments) && (is_some (text_named (codes "key") arguments) && is_some (first_named arguments)))

-- what becomes of the lines of these bytes
abbrev pub cut : SplitArguments → List ℕ → AllPlaced
cut asked bytes = placed_lines (string_bytes asked.key) asked.parts (below asked.first) (lines_in bytes)

-- A splitter has placed the lines of these bytes, and reads on with whatever comes after them.
pub record HasCut (asked : SplitArguments) (splitter : Splitter) (bytes : List ℕ) : Type 0 where
  pub placed : List Placed
  pub goes : (rest : List ℕ) → cut asked (bytes ++ rest) ≡ in_front placed (placed_on splitter rest)
  pub parts : length (texts_of splitter) ≡ asked.parts
  pub counts : (part : ℕ) → part < asked.parts → slice_index (counts_of splitter) part ≡ length (of_part part placed)

abbrev pub HasTaken : SplitArguments → Splitting → List ℕ → List ℕ → Type 0
HasTaken asked splitting bytes told = HasCut asked splitting.splitter bytes × (told ≡ [])

-- what is printed of these bytes: of all their lines, each of which is of a part
pub record Prints (asked : SplitArguments) (bytes text : List ℕ) : Type 0 where
  pub placed : List Placed
  pub above : Above
  pub all : cut asked bytes ≡ Ok (placed, above)
  pub printed : text ≡ split_text asked.parts placed above

-- why they are refused: for their first line that is
abbrev pub RefusesLog : SplitArguments → List ℕ → LogsRefused → Type 0
RefusesLog asked bytes (Log error) = (error.why ≢ Memory) × (cut asked bytes ≡ Err error)
RefusesLog asked bytes (Early line) = ⊥
RefusesLog asked bytes (Kept refused) = ⊥

-- It prints how many lines each part has. It refuses a log whole, tells nothing while it reads, but progress, and finds nothing.
-- What it writes to the files of the parts, and whether that fails, is in no clause.
abbrev pub split : Promise SplitArguments Splitting LogsRefused Infallible
split = record {
  app = command;
  most = MAX_SPLIT_BYTES;
  suits = suits;
  asks = AskFor;
  tells = λ arguments. is_set (codes "progress") command arguments;
  warns = λ arguments. false;
  fails = λ arguments fault. fault ≡ Writing;
  taken = HasTaken;
  prints = λ arguments bytes text found refused. (found ≡ None) × (refused ≡ None)
      × (asked : SplitArguments) × AskFor arguments asked × Prints asked bytes text;
  refuses = λ arguments bytes refused. (asked : SplitArguments) × AskFor arguments asked × RefusesLog asked bytes refused;
  finds = λ arguments bytes found. ⊥;
}
