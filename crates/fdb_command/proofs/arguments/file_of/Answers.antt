use Rattle.std.proofs.Common.{◌∙◌, ap, codes}
use Rattle.clap.specs.Words.{first_of, found_of}
use Rattle.clap.proofs.WalkLemmas.{first_value-rows}
use Rattle.fdb_command.proofs.arguments.file_of.Goals as goal

pub returns : goal.returns
returns c = λ app arguments matches. c.get_str.ensures ∙ first_value-rows (found_of c.args.matches.now) (codes "file") ∙ ap (first_of (codes "file")) matches.rows
