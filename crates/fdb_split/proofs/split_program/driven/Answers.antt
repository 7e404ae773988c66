use Rattle.std.proofs.Common.{[], List, ◌++◌, ℕ, MatchResult, subst, sym}
use Rattle.fdb_command.specs.Driving.{MayAnswer, Stops}
use Rattle.fdb_split.specs.Program.{split}
use Rattle.fdb_split.proofs.Stopping.{promised}
use Rattle.fdb_split.proofs.split_program.driven.Goals as goal

pub drive-requires-clause-promised : goal.drive-requires-clause-promised
drive-requires-clause-promised g c = λ arguments options intake bytes told made is has answers.
    subst (λ (told : List ℕ). MatchResult made (MayAnswer split arguments bytes told) (Stops split arguments bytes)) (sym has.1)
    (promised arguments options bytes made is (answers arguments bytes is has.0))
