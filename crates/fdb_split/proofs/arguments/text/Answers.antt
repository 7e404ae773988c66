use Rattle.std.proofs.Common.{◌∙◌, ap}
use Rattle.clap.specs.Words.{first_of, found_of}
use Rattle.clap.proofs.WalkLemmas.{first_value-rows}
use Rattle.fdb_split.proofs.arguments.text.Goals as goal

pub returns : goal.returns
returns c = λ arguments matches.
    c.get_str.ensures ∙ first_value-rows (found_of c.args.matches.now) c.args.argument.now ∙ ap (first_of c.args.argument.now) matches.rows
