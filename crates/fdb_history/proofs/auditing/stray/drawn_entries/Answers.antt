use Rattle.std.proofs.Common.{◌≡◌, length, drop, sym, ◌∙◌, arith}
use Rattle.fdb_history.proofs.faults.FirstCalls.{calls-at}
use Rattle.fdb_history.proofs.chains.Marks.{drawn_below, marks-more, marks-all, written_back}
use Rattle.fdb_history.proofs.auditing.stray.drawn_entries.Goals as goal

pub loop-client-preserved : goal.loop-client-preserved
loop-client-preserved c =
    let was = drawn_below c.args.logs.now c.loop-client.client in
    let drawn = c.mark_drawn.ensures was (rw c.deref_mut.ensures.value c.loop-client.invariant) in
    let more = marks-more c.args.chain.now c.mark_drawn.new.drawn c.args.logs.now c.loop-client.client c.as_slice.result.now (calls-at _ _ _ c.loop-client-test.true c.index-logs-client.is ∙ sym c.as_slice.ensures) drawn in
    let same : c.loop-client.drawn.len ≡ length c.mark_drawn.new.drawn = omega (arith, c.loop-client.drawn.ok.0, c.loop-client.invariant.count, drawn.count) in
    rw (written_back c.loop-client.drawn.len c.mark_drawn.new.drawn (drop (length c.mark_drawn.new.drawn) c.loop-client.drawn.items) same) more

pub returns : goal.returns
returns c = marks-all c.args.chain.now c.loop-client.drawn.items c.args.logs.now c.loop-client.client c.loop-client-test.false c.loop-client.invariant
