use Rattle.std.proofs.Common.{◌≡◌, ◌∙◌, ap, refl, sym}
use Rattle.fdb_log_reader.specs.Reading.{lines_in}
use Rattle.fdb_log_reader.specs.Split.{below, placed_lines}
use Rattle.fdb_split.proofs.Cutting.{begun}
use Rattle.fdb_split.proofs.split_program.SplitProgram.begin.Goals as goal

pub returns-in-Ok-clause-taken : goal.returns-in-Ok-clause-taken
returns-in-Ok-clause-taken g c =
    let asked = c.args.asked.now in
    let made = c.in_ok-splitter.ensures in (
      begun asked c.in_ok-splitter.splitter
          (λ log. made.placed log ∙ ap (λ member. placed_lines member asked.parts (below asked.first) (lines_in log)) c.deref.ensures) made.parts made.counts,
      refl,
    )
