use Rattle.std.proofs.Common.{sym, ◌∙◌}
use Rattle.fdb_queue.proofs.Admitting.{IsQueue-pushed_out, let_in}
use Rattle.fdb_queue.proofs.queue.GrvQueue.offer.Goals as goal

pub invariant_of-self-2 : goal.invariant_of-self-2
invariant_of-self-2 g c =
    let none = rw (← c.self.view_is) at (sym c.refusal_of.ensures ∙ c.in_default.is) in
    let full = rw (← c.self.view_is) at (sym c.if-not-full.ensures) in
    rw (c.pop_lowest.ensures.rest, c.in_default-push.ensures.ok) (IsQueue-pushed_out (record { config = c.self.inside.config; waiting = c.self.inside.waiting; budgets = c.self.inside.budgets; throttles = c.self.inside.throttles }) c.args.request c.self.invariant (let_in _ _ none) full)
