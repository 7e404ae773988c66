use Rattle.std.proofs.Common.{◌∙◌, ap, sym}
use Rattle.fdb_split.specs.Program.{count_in}
use Rattle.fdb_split.proofs.arguments.first_of.Goals as goal

pub returns-in-Some : goal.returns-in-Some
returns-in-Some c = λ arguments matches. ap count_in (sym (c.in-Some.ensures arguments matches)) ∙ sym c.written.ensures

pub returns-in-None : goal.returns-in-None
returns-in-None c = λ arguments matches. ap count_in (sym (c.in-None.ensures arguments matches))
