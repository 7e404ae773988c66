use Rattle.std.proofs.Common.{◌≤◌, sym, ◌∙◌}
use Rattle.std.proofs.lemmas.List.Elements.{All-rest}
use Rattle.std.proofs.lemmas.List.Folds.{fold_stays}
use Rattle.std.specs.VecDeque.Iter.{deque_iter_rest}
use Rattle.fdb_queue.specs.private.Walk.{walk_after}
use Rattle.fdb_queue.specs.declared.config.TheConstants.{MAX_COUNT}
use Rattle.fdb_queue.proofs.Walking.{ended_stays}
use Rattle.fdb_queue.proofs.window.Walk.along.Goals as goal

pub loop-request-preserved : goal.loop-request-preserved
loop-request-preserved g c = (
  c.after-walk.ensures.walk,
  All-rest (λ request. request.count ≤ MAX_COUNT) c.in-Some.request.now (deque_iter_rest c.next.new.self) (deque_iter_rest c.loop-request.request-iterator) c.in-Some.ensures.steps c.loop-request.invariant.1,
  rw c.after-walk.ensures.value (rw c.in-Some.ensures.steps at c.loop-request.invariant.2),
)

pub returns-then-walk-clause-value : goal.returns-then-walk-clause-value
returns-then-walk-clause-value g c =
    sym (fold_stays (walk_after c.args.config.now c.args.budgets.now) c.loop-request.walk (λ request. ended_stays c.args.config.now c.args.budgets.now c.loop-request.walk request c.if-walk.true) (deque_iter_rest c.loop-request.request-iterator))
    ∙ c.loop-request.invariant.2
