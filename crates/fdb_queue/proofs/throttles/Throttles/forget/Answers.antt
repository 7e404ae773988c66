use Rattle.fdb_queue.proofs.Forgetting.{left_in_all, unexpired_in_all}
use Rattle.fdb_queue.proofs.throttles.Throttles.forget.Goals as goal

pub returns-clause-left : goal.returns-clause-left
returns-clause-left c =
    rw (← c.self.view_is) (left_in_all c.args.at _ _ _ _ _ _ c.forget_in.ensures.left c.forget_in-2.ensures.left c.forget_in-3.ensures.left)

pub returns-clause-forgotten : goal.returns-clause-forgotten
returns-clause-forgotten c = unexpired_in_all c.args.at _ _ _ c.forget_in.ensures.forgotten c.forget_in-2.ensures.forgotten c.forget_in-3.ensures.forgotten
