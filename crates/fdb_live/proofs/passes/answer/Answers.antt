use Rattle.fdb_live.proofs.Serving.{served_so}
use Rattle.fdb_live.proofs.passes.answer.Goals as goal

pub returns-clause-served : goal.returns-clause-served
returns-clause-served g c =
    served_so c.give_all-mine.ensures.given.1 c.serve.ensures.served.1 c.requires.right c.requires.numbers c.draw_any.ensures.draws c.give_lowest.ensures.kept.1 c.give_lowest.ensures.given.1
