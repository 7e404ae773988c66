-- What the arguments of a command line ask for, as the driver reads it. (this product's own)
use Rattle.std.specs.Prelude.{◌≡◌, List, true}
use Rattle.clap.specs.Words.{App, Text}
use Rattle.clap.specs.declared.parser.matches.ArgMatches.{ArgMatches}
use Rattle.fdb_command.specs.Arguments.{AreMatches, AsksHelp}
use Rattle.fdb_command.specs.Driving.{Promise}
use Rattle.fdb_command.specs.declared.arguments.Invocation.{Invocation}
use Rattle.fdb_command.specs.declared.arguments.Invocation.TheVariants as invocation
use Rattle.fdb_command.specs.declared.driving.Request.{Request}
use Rattle.fdb_command.specs.declared.driving.Request.TheVariants as request

-- the arguments ask for an input, by these matches, or for help
abbrev pub Ask : App → List Text → Invocation → Type 0
Ask app arguments (invocation.Input matches) = AreMatches app arguments matches
Ask app arguments (invocation.Help help) = AsksHelp app arguments

-- the arguments ask a program for an input, by these matches, of which the flags stand for these options,
-- and suit it
pub record AskBy {O I E F : Type 0} (program : Promise O I E F) (arguments : List Text)
    (matches : ArgMatches) (options : O) : Type 0 where
  pub are : AreMatches program.app arguments matches
  pub asks : program.asks arguments options
  pub suits : program.suits arguments ≡ true

-- the arguments ask a program for an input so, or for help
abbrev pub AskOf : {O I E F : Type 0} → Promise O I E F → List Text → Request O → Type 0
AskOf program arguments (request.Input matches options) = AskBy program arguments matches options
AskOf program arguments (request.Help help) = AsksHelp program.app arguments
