-- The arguments of a command line. clap reads them, and its definitions say what it makes of them:
-- the matches of a command on them, and the kinds of error that it gives at them.
-- (this product's own)
use Rattle.std.specs.Prelude.{◌≡◌, ◌≢◌, ◌⊎◌, ◌||◌, ℕ, ◌≤◌, Bool, true, false, List, [], ◌∷◌, Option, None, Some, codes, filter, ℤ}
use Rattle.std.specs.Option.{option_map_or}
use Rattle.std.specs.Str.Parse.{digits_value, without_leading_plus}
use Rattle.std.specs.Str.{bytes_eq}
use Rattle.clap.specs.Simple.{on_top}
use Rattle.clap.specs.Words.{App, IsAmong, IsParsedFrom, Rule, Text, app_of, fault_of, first_of, found_of, is_simple, matches_of, new_app, new_rule, one_of, rows_of}
use Rattle.clap.specs.declared.builder.action.ArgAction.TheVariants.{SetTrue}
use Rattle.clap.specs.declared.builder.command.Command.{Command}
use Rattle.clap.specs.declared.builder.value_parser.ValueParser.TheVariants as parser
use Rattle.clap.specs.declared.error.kind.ErrorKind.TheVariants.{DisplayHelp, DisplayVersion}
use Rattle.clap.specs.declared.parser.matches.ArgMatches.{ArgMatches}

-- the file that has the input, a flag, and a number in a range, as clap is given them
abbrev pub file_rule : Rule
file_rule = record (new_rule (codes "file")) { value_names = 1 }

abbrev pub flag_rule : Text → Rule
flag_rule name = record (new_rule name) {
  long = Some name;
  action = Some SetTrue;
  parser = Some parser.Bool;
}

abbrev pub number_rule : Text → ℤ → ℤ → Rule
number_rule name low high = record (new_rule name) {
  long = Some name;
  value_names = 1;
  parser = Some (parser.Signed low high);
}

-- the command of a program, whose arguments come without the program's own name
abbrev pub command_of : Text → List Rule → App
command_of name rules =
    on_top (λ top. record top { no_binary_name = true; rules = rules }) (new_app name)

-- the same of a program that says its version where it is asked for
abbrev pub versioned_command_of : Text → List Rule → App
versioned_command_of name rules =
    on_top (λ top. record top { has_version = true }) (command_of name rules)

-- these are the matches of a command on these arguments, which it takes
pub record AreMatches (app : App) (arguments : List Text) (matches : ArgMatches) : Type 0 where
  pub command : Command
  pub parsed : IsParsedFrom command matches
  pub is : app_of command ≡ app
  pub rows : rows_of (found_of matches) ≡ matches_of app arguments
  pub taken : fault_of app arguments ≡ []

-- help or the version is asked for, which clap answers as an error
abbrev pub AsksHelp : App → List Text → Type 0
AsksHelp app arguments = IsAmong DisplayHelp (fault_of app arguments) ⊎ IsAmong DisplayVersion (fault_of app arguments)

-- clap refuses the arguments, for another reason than that one of these is asked for
abbrev pub AreWrong : App → List Text → Type 0
AreWrong app arguments = (kind : _) × (kind ≢ DisplayHelp) × (kind ≢ DisplayVersion) × IsAmong kind (fault_of app arguments)

-- the file that has the input; None where standard input has it
abbrev pub file_named : App → List Text → Option Text
file_named app arguments = first_of (codes "file") (matches_of app arguments)

-- an input is asked for, and no file is named, so standard input is to be read
abbrev pub ReadsInput : App → List Text → Type 0
ReadsInput app arguments = (fault_of app arguments ≡ []) × (file_named app arguments ≡ None)

-- a name that no argument of a program's own has: none, and those of clap's two arguments
abbrev pub is_taken : Text → Bool
is_taken name =
    bytes_eq name [] || (bytes_eq name (codes "help") || bytes_eq name (codes "version"))

-- a command has this argument, and no other of its name
abbrev pub HasArgument : App → Rule → Type 0
HasArgument app rule =
    (is_simple app ≡ true) × (is_taken rule.id ≡ false)
    × (filter (λ other. bytes_eq other.id rule.id) app.top.rules ≡ rule ∷ [])

-- the flag is given, for which clap then has the text `true`
abbrev pub is_set : Text → App → List Text → Bool
is_set name app arguments = option_map_or (λ text. bytes_eq text (codes "true"))
    (one_of name (matches_of app arguments)) false

-- the number that an argument gives, in a range; none where it is not given
abbrev pub IsNumber : ℕ → ℕ → Option Text → Option ℕ → Type 0
IsNumber low high None found = found ≡ None
IsNumber low high (Some digits) found =
    (number : ℕ) × (found ≡ Some number) × (low ≤ number) × (number ≤ high)
    × (number ≡ digits_value 10 (without_leading_plus digits))
