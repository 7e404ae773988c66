use Rattle.std.proofs.Common.{rules, sym, ◌∙◌, ◌≡◌, ◌<◌, length, true, false}
use Rattle.fdb_queue.specs.Queue.{Queue}
use Rattle.fdb_queue.specs.Window.{window}
use Rattle.fdb_queue.proofs.Leaving.{after_is, IsQueue-left, IsReach-throttled, some_started}
use Rattle.fdb_queue.proofs.queue.GrvQueue.window.Goals as goal

pub invariant_of-self-2 : goal.invariant_of-self-2
invariant_of-self-2 g c =
    rw c.in_ok-started.ensures.left (IsQueue-left _ c.reach-reach.result _ c.self.invariant (record { normal = c.after.ensures.in_range; batch = c.after-2.ensures.in_range }))

pub returns-clause-after : goal.returns-clause-after
returns-clause-after g c =
    let lengths = c.lengths-left.ensures in
    let normal = rw (lengths.system, lengths.default_) at c.after.ensures.value in
    let batch = rw (lengths.system, lengths.default_, lengths.batch) at c.after-2.ensures.value in
    rw (← c.self.view_is) (after_is _ c.reach-reach.result c.args.elapsed _ _ _ c.self.invariant (IsReach-throttled _ c.reach-reach.result c.reach-reach.ensures) c.in_ok-started.ensures.left normal batch)

pub returns-in_err-started-clause-else_memory : goal.returns-in_err-started-clause-else_memory
returns-in_err-started-clause-else_memory g c time =
    let queue : Queue g.row.T.Denot = record { config = c.self.inside.config; waiting = c.self.inside.waiting; budgets = c.self.inside.budgets; throttles = c.self.inside.throttles } in
    let some_of = some_started queue c.reach-reach.result (IsReach-throttled queue c.reach-reach.result c.reach-reach.ensures) (λ none. (let never : false ≡ true = c.in_err-started.ensures.none none in cc)) in
    let some : 0 < length (window c.args.self.now) = rw (← c.self.view_is) some_of in
    search rules

pub returns-clause-started : goal.returns-clause-started
returns-clause-started g c = rw (← c.self.view_is) (c.in_ok-started.ensures.taken ∙ sym c.reach-reach.ensures.started)
