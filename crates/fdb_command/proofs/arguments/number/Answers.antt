use Rattle.std.specs.Str.Parse.{ParsesUnsigned, ExplainsUnsignedError, HasUnsignedDigitsIfOk}
use Rattle.fdb_command.proofs.Values.{number_of}
use Rattle.fdb_command.proofs.arguments.number.Goals as goal

pub returns : goal.returns
returns c = λ app arguments matches low high fits has.
    number_of _ (λ bytes r. ParsesUnsigned 64 10 bytes r × ExplainsUnsignedError 10 bytes r × HasUnsignedDigitsIfOk bytes r) app arguments c.args.matches.now matches c.args.argument.now low high has
    c.get_one.result c.get_one.ensures.none c.get_one.ensures.value (λ u x g. g.0) fits
