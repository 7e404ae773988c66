use Rattle.fdb_command.proofs.Values.{flag_of}
use Rattle.fdb_command.proofs.arguments.is_given.Goals as goal

pub returns : goal.returns
returns c = λ app arguments matches has. flag_of app arguments c.args.matches.now matches c.args.flag.now has c.get_flag.result c.get_flag.ensures.none c.get_flag.ensures.value c.get_flag.ensures.other
