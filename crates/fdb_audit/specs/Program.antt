-- What the program promises of itself. (this product's own)
use Rattle.std.specs.Prelude.{◌≡◌, ◌≢◌, ℕ, ◌++◌, ◌||◌, ◌&&◌, ◌==◌, not, true, Bool, List, [], ◌∷◌, Option, None, Some, Err, codes, is_some, map, option_map, pos, string_bytes, unwrap_or, Ok, Result, if◌then◌else◌}
use Rattle.std.specs.List.{slice_split}
use Rattle.std.specs.Option.{option_or}
use Rattle.std.specs.Str.Parse.{digits_value, without_leading_plus}
use Rattle.clap.specs.Words.{App, Rule, Text, first_of, matches_of, new_rule, one_of}
use Rattle.fdb_command.specs.Arguments.{file_rule, flag_rule, is_set, number_rule, versioned_command_of}
use Rattle.fdb_command.specs.Driving.{Promise}
use Rattle.fdb_lines.specs.declared.fault.Found.{Found}
use Rattle.fdb_log_reader.specs.declared.error.ReadError.{ReadError}
use Rattle.fdb_log_reader.specs.declared.error.Why.TheVariants.{Memory}
use Rattle.fdb_log_reader.specs.declared.reader.LogReader.{LogReader}
use Rattle.fdb_log_reader.specs.Reader.{reads_on}
use Rattle.fdb_log_reader.specs.Reading.{Reading, reading_with}
use Rattle.fdb_audit.specs.Judged.{IsTextOfReading, own_numbers}
use Rattle.fdb_audit.specs.Text.{fault_of}
use Rattle.fdb_audit.specs.declared.arguments.AuditArguments.{AuditArguments}
use Rattle.fdb_audit.specs.declared.printer.LogFault.{LogFault}
use Rattle.fdb_audit.specs.declared.judgement.Wanted.{Wanted}
use Rattle.fdb_audit.specs.declared.refusal.LogsRefused.{LogsRefused}
use Rattle.fdb_audit.specs.declared.refusal.LogsRefused.TheVariants.{Early, Log}
use Rattle.fdb_audit.specs.declared.refusal.LogsRefused.TheVariants.{Kept as Of_kept}
use Rattle.fdb_audit.specs.Following.{Start, fresh, start_behind}
use Rattle.fdb_audit.specs.Kept.{start_of}
use Rattle.fdb_audit.specs.KeptFile.{KeepingFails}
use Rattle.fdb_audit.specs.declared.audit_program.AuditIntake.{AuditIntake}
use Rattle.fdb_audit.specs.declared.audit_program.AuditIntake.TheVariants.{Whole, Followed}
use Rattle.fdb_audit.specs.declared.audit_program.TheConstants.{MAX_LOG_BYTES}
use Rattle.fdb_audit.specs.Progress.{HasPrinted, IsPrinted}

-- an argument that gives a text, as clap is given it
abbrev pub text_rule : Text → Rule
text_rule name = record (new_rule name) { long = Some name; value_names = 1 }

-- LOGS, --version, --complete START, --margin N, --follow N, --forget N, --keep FILE, --position MEMBER, --key MEMBER, --show MEMBER,MEMBER, --numbers MEMBER, --all, --summary, --json, --history and --progress
abbrev pub command : App
command = versioned_command_of (codes "fdb_audit")
    (file_rule
    ∷ number_rule (codes "complete") (pos 0) (pos 9223372036854775807)
    ∷ number_rule (codes "margin") (pos 0) (pos 9223372036854775807)
    ∷ number_rule (codes "follow") (pos 0) (pos 9223372036854775807)
    ∷ number_rule (codes "forget") (pos 0) (pos 9223372036854775807)
    ∷ text_rule (codes "keep") ∷ text_rule (codes "position") ∷ text_rule (codes "key") ∷ text_rule (codes "show") ∷ text_rule (codes "numbers") ∷ flag_rule (codes "all") ∷ flag_rule (codes "summary") ∷ flag_rule (codes "json") ∷ flag_rule (codes "history") ∷ flag_rule (codes "progress") ∷ [])

-- the number that an argument gives, if it is given
abbrev pub number_named : Text → List Text → Option ℕ
number_named name arguments =
    option_map (λ digits. digits_value 10 (without_leading_plus digits)) (one_of name (matches_of command arguments))

abbrev pub is_given : Text → List Text → Bool
is_given name arguments = is_set name command arguments

-- What is printed by the flags: --json tells all faults, and --summary the totals alone.
pub record IsWanted (arguments : List Text) (wanted : Wanted) : Type 0 where
  pub history : wanted.history ≡ is_given (codes "history") arguments
  pub all : wanted.all ≡ (is_given (codes "all") arguments || is_given (codes "json") arguments) && not (is_given (codes "summary") arguments)
  pub totals : wanted.totals ≡ is_given (codes "all") arguments || (is_given (codes "json") arguments || is_given (codes "summary") arguments)
  pub json : wanted.json ≡ is_given (codes "json") arguments

abbrev pub is_comma : ℕ → Bool
is_comma byte = byte == 44

-- the members that a text names, parted by commas; none where it is not given
abbrev pub members_named : Option Text → List Text
members_named None = []
members_named (Some text) = slice_split is_comma text

-- what the arguments say, as clap has matched them
pub record AskFor (arguments : List Text) (asked : AuditArguments) : Type 0 where
  pub complete : asked.opts.complete ≡ number_named (codes "complete") arguments
  pub margin : asked.opts.margin ≡ unwrap_or (number_named (codes "margin") arguments) 0
  pub follow : asked.follow ≡ number_named (codes "follow") arguments
  pub forget : asked.forget ≡ number_named (codes "forget") arguments
  pub wanted : IsWanted arguments asked.wanted
  pub keep : option_map string_bytes asked.keep ≡ first_of (codes "keep") (matches_of command arguments)
  pub position : option_map string_bytes asked.position ≡ first_of (codes "position") (matches_of command arguments)
  pub key : option_map string_bytes asked.key ≡ first_of (codes "key") (matches_of command arguments)
  pub shown : map string_bytes asked.shown.items ≡ members_named (first_of (codes "show") (matches_of command arguments))
  pub numbers : option_map string_bytes asked.numbers ≡ first_of (codes "numbers") (matches_of command arguments)
  pub progress : asked.progress ≡ is_given (codes "progress") arguments

-- a log is audited as a whole, and not followed as it grows
abbrev pub IsWhole : List Text → Type 0
IsWhole arguments = number_named (codes "follow") arguments ≡ None

-- the member that has the keys, if they are asked for
abbrev pub key_asked : AuditArguments → Option (List ℕ)
key_asked asked = option_map string_bytes asked.key

-- and those that are shown
abbrev pub shown_asked : AuditArguments → List (List ℕ)
shown_asked asked = map string_bytes asked.shown.items

-- what a log stands for as it is asked for: with the member of the lines' own numbers, if they have such
abbrev pub reading_asked : AuditArguments → List ℕ → Result Reading ReadError
reading_asked asked bytes = reading_with (key_asked asked) (shown_asked asked) (option_map string_bytes asked.numbers) bytes

-- the reader has read these bytes: it reads on with whatever text comes after them
abbrev pub HasRead : AuditArguments → LogReader → List ℕ → Type 0
HasRead asked reader bytes = (text : List ℕ) → reads_on reader text ≡ reading_asked asked (bytes ++ text)

-- what an audit prints of these bytes, and what it tells of: the first fault, by its line: its own number, where lines have
-- such
abbrev pub Prints : AuditArguments → List ℕ → List ℕ → Option LogFault → Type 0
Prints asked bytes text found =
    (reading : Reading) × (reading_asked asked bytes ≡ Ok reading)
    × (first : Option Found) × (found ≡ option_map (fault_of (own_numbers reading.numbers)) first)
    × IsTextOfReading reading asked.opts asked.wanted first text

-- From where a log is followed on of which something was kept: by the text that keeps lines, which is read in front of what comes; and
-- where none is kept, behind so many lines.
abbrev pub start_kept : AuditArguments → ℕ → ℕ → List ℕ → Start
start_kept asked behind more [] = start_behind behind more
start_kept asked behind more (byte ∷ kept) = start_of asked behind (byte ∷ kept)

-- From where a log is followed on: by what was kept of it, where the arguments say that and where it is kept; and else from its beginning.
abbrev pub started : AuditArguments → ℕ → ℕ → List ℕ → Start
started asked behind more kept = if is_some asked.keep then start_kept asked behind more kept else fresh behind

-- no text is kept where none is asked for, and nothing says that lines were read
abbrev pub MayBeKept : AuditArguments → ℕ → List ℕ → Type 0
MayBeKept asked more kept = asked.keep ≡ None → (kept ≡ []) × (more ≡ 0)

-- the intake has taken these bytes: of a log that is followed this text has been told so far, of any other none
abbrev pub HasTaken : AuditArguments → AuditIntake → List ℕ → List ℕ → Type 0
HasTaken asked (Whole reader) bytes told = (asked.follow ≡ None) × HasRead asked reader bytes × (told ≡ [])
HasTaken asked (Followed log) bytes told =
    (behind : ℕ) × (asked.follow ≡ Some behind) × (kept : List ℕ) × (more : ℕ) × MayBeKept asked more kept
    × HasPrinted asked (started asked behind more kept) log (kept ++ bytes) told

-- why not all of a log was judged: the last line that is refused, or that none is taken, or the last line that came early
abbrev pub refusal_of : Option ReadError → Option ℕ → Option LogsRefused
refusal_of refused last_early = option_or (option_map Log refused) (option_map Early last_early)

-- what is printed of a log, which is refused whole or not at all, or of one that is followed, of which lines may be left out
abbrev pub PrintsBy : Option ℕ → AuditArguments → List ℕ → List ℕ → Option LogFault → Option LogsRefused → Type 0
PrintsBy None asked bytes text found refused = Prints asked bytes text found × (refused ≡ None)
PrintsBy (Some behind) asked bytes text found refused =
    (kept : List ℕ) × (more : ℕ) × MayBeKept asked more kept × (error : Option ReadError) × (last_early : Option ℕ)
    × IsPrinted asked (started asked behind more kept) (not (is_some asked.keep)) (kept ++ bytes) text found error last_early
    × (refused ≡ refusal_of error last_early)

-- Why it is refused: no log is read of it, or of one that is followed what was kept is refused; or, of one that is followed, some
-- text tells of that, since a part of it is refused or not all of it was judged.
abbrev pub RefusesBy : Option ℕ → AuditArguments → List ℕ → LogsRefused → Type 0
RefusesBy None asked bytes (Log error) = (error.why ≢ Memory) × (reading_asked asked bytes ≡ Err error)
RefusesBy None asked bytes _ = ⊥
RefusesBy (Some behind) asked bytes (Of_kept refused) = is_some asked.keep ≡ true
RefusesBy (Some behind) asked bytes refused = (text : List ℕ) × (found : Option LogFault) × PrintsBy (Some behind) asked bytes text found (Some refused)

-- Neither --complete nor --history suits --follow, --keep suits nothing else, --position suits --keep alone, --forget suits --follow with --key alone, and --numbers suits neither --follow nor --history. It prints what an audit of the log finds that the bytes stand for,
-- and refuses what stands for none; that memory was refused says nothing of the bytes. Whatever it finds, it prints. Of
-- a log that is followed it says on standard error which lines it leaves out.
abbrev pub audit : Promise AuditArguments AuditIntake LogsRefused LogFault
audit = record {
  app = command;
  most = MAX_LOG_BYTES;
  suits = λ arguments. not (is_some (number_named (codes "follow") arguments)
      && (is_some (number_named (codes "complete") arguments) || is_given (codes "history") arguments)
      || ((is_some (first_of (codes "keep") (matches_of command arguments)) && not (is_some (number_named (codes "follow") arguments)))
      || ((is_some (first_of (codes "position") (matches_of command arguments)) && not (is_some (first_of (codes "keep") (matches_of command arguments))))
      || ((is_some (first_of (codes "numbers") (matches_of command arguments))
      && (is_some (number_named (codes "follow") arguments) || is_given (codes "history") arguments))
      || (is_some (number_named (codes "forget") arguments)
      && not (is_some (number_named (codes "follow") arguments) && is_some (first_of (codes "key") (matches_of command arguments))))))));
  asks = AskFor;
  tells = λ arguments. is_set (codes "progress") command arguments;
  warns = λ arguments. is_some (number_named (codes "follow") arguments);
  fails = λ arguments fault. KeepingFails (first_of (codes "keep") (matches_of command arguments)) fault;
  taken = HasTaken;
  prints = λ arguments bytes text found refused. (asked : AuditArguments) × AskFor arguments asked
      × PrintsBy asked.follow asked bytes text found refused;
  refuses = λ arguments bytes refused. (asked : AuditArguments) × AskFor arguments asked
      × RefusesBy asked.follow asked bytes refused;
  finds = λ arguments bytes found. ⊥;
}
