use Rattle.fdb_queue.proofs.Popping.{IsQueue-popped}
use Rattle.fdb_queue.proofs.queue.GrvQueue.pop.Goals as goal

pub invariant_of-self : goal.invariant_of-self
invariant_of-self g c =
    rw c.pop_first.ensures.rest (IsQueue-popped (record { config = c.self.inside.config; waiting = c.self.inside.waiting; budgets = c.self.inside.budgets; throttles = c.self.inside.throttles }) c.self.invariant)
