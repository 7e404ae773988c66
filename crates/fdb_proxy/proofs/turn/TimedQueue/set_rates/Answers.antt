use Rattle.fdb_queue.specs.Config.{IsConfig}
use Rattle.fdb_queue.specs.NewRates.{with_rates}
use Rattle.fdb_proxy.proofs.turn.TimedQueue.set_rates.Goals as goal

pub returns-in-Err-clause-some : goal.returns-in-Err-clause-some
returns-in-Err-clause-some g c =
    let before = c.in-Err.ensures.kept.config in
    let rates = c.args.rates.in_range in
    let is : IsConfig (with_rates c.args.rates.normal c.args.rates.batch c.args.self.now.queue.config) = record {
      normal_some = rates.normal_some;
      normal_in_range = rates.normal_in_range;
      batch_in_range = rates.batch_in_range;
      room_some = before.room_some;
      room_in_range = before.room_in_range;
    } in
    (c.in-Err.ensures.else_memory is).1
