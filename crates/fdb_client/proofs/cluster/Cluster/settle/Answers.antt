use Rattle.std.proofs.Common.{rules, length, ap, ◌∙◌}
use Rattle.fdb_history.specs.Faults.{changes_in}
use Rattle.fdb_client.proofs.cluster.Cluster.settle.Goals as goal

pub close-drawn-requires-clause-agree : goal.close-drawn-requires-clause-agree
close-drawn-requires-clause-agree g c = rw (c.deref_mut.ensures.value, c.deref.ensures.value) c.finished.invariant.3

pub close-drawn-requires-clause-chained : goal.close-drawn-requires-clause-chained
close-drawn-requires-clause-chained g c = rw (c.deref_mut.ensures.value, c.deref.ensures.value) c.finished.invariant.4

pub invariant_of-result : goal.invariant_of-result
invariant_of-result g c =
    let logs = c.deref.ensures.value in
    let start = c.args.self.start in
    let closed = c.close-drawn.ensures in
    record {
      epoch = c.args.self.in_range.epoch;
      few = search rules;
      one_chain = rw (c.args.self.epoch_end, c.args.self.recovery, ← logs) closed.one_chain;
      faultless = rw (start, ← logs) closed.faultless;
      justified = rw (← logs) closed.justified;
      above = rw (start, ← logs) closed.above;
      counted = closed.changes ∙ ap (λ l. length (changes_in l)) logs;
    }
