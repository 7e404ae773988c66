use Rattle.fdb_queue.proofs.Walking.{never_shrinks, reach_is}
use Rattle.fdb_queue.proofs.waiting.Waiting.reach.Goals as goal

pub overflow_sub-result : goal.overflow_sub-result
overflow_sub-result g c = never_shrinks c.args.config.now c.args.budgets.now c.along-system.result c.along-default_.result c.self.inside.default_.items c.along-default_.ensures.value

pub overflow_sub-result-2 : goal.overflow_sub-result-2
overflow_sub-result-2 g c = never_shrinks c.args.config.now c.args.budgets.now c.along-default_.result c.along-batch.result c.self.inside.batch.items c.along-batch.ensures.value

pub returns : goal.returns
returns g c = rw (← c.self.view_is) (reach_is _ c.along-system.result c.along-default_.result c.along-batch.result c.along-system.ensures.value c.along-default_.ensures.value c.along-batch.ensures.value c.along-default_.ensures.walk c.along-batch.ensures.walk)
