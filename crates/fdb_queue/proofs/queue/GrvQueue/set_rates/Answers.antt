use Rattle.std.proofs.Common.{sym, ◌∙◌, ◌<◌, length, rules}
use Rattle.fdb_queue.specs.NewRates.{turned_away, with_rates}
use Rattle.fdb_queue.specs.Waiting.{row}
use Rattle.fdb_queue.proofs.Rerating.{IsQueue-set, only_batch, under_rates_by}
use Rattle.fdb_queue.proofs.queue.GrvQueue.set_rates.Goals as goal

pub returns-in_err-out-clause-else_memory : goal.returns-in_err-out-clause-else_memory
returns-in_err-out-clause-else_memory g c _ =
    let is = c.is_in_range.ensures.0 c.if-not-is_in_range.false in
    let batch = only_batch c.args.normal c.args.batch (record { config = c.self.inside.config; waiting = c.self.inside.waiting; budgets = c.self.inside.budgets; throttles = c.self.inside.throttles }) c.self.invariant is in
    let some : 0 < length (turned_away (with_rates c.args.normal c.args.batch c.args.self.now.config) (row c.args.self.now.waiting)) = rw (← c.self.view_is, batch) c.in_err-out.ensures.some in
    search rules

pub invariant_of-self-2 : goal.invariant_of-self-2
invariant_of-self-2 g c =
    let is = c.is_in_range.ensures.0 c.if-not-is_in_range.false in
    rw c.in_ok-out.ensures.left (IsQueue-set c.args.normal c.args.batch (record { config = c.self.inside.config; waiting = c.self.inside.waiting; budgets = c.self.inside.budgets; throttles = c.self.inside.throttles }) c.self.invariant is)

pub returns-clause-set : goal.returns-clause-set
returns-clause-set g c =
    let is = c.is_in_range.ensures.0 c.if-not-is_in_range.false in
    rw (← c.self.view_is, c.in_ok-out.ensures.left) (sym (under_rates_by c.args.normal c.args.batch (record { config = c.self.inside.config; waiting = c.self.inside.waiting; budgets = c.self.inside.budgets; throttles = c.self.inside.throttles }) c.self.invariant is))

pub returns-clause-handed_out : goal.returns-clause-handed_out
returns-clause-handed_out g c =
    let is = c.is_in_range.ensures.0 c.if-not-is_in_range.false in
    rw (← c.self.view_is) (c.in_ok-out.ensures.out ∙ sym (only_batch c.args.normal c.args.batch (record { config = c.self.inside.config; waiting = c.self.inside.waiting; budgets = c.self.inside.budgets; throttles = c.self.inside.throttles }) c.self.invariant is))
