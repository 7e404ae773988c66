use Rattle.fdb_history.proofs.faults.FirstCalls.{calls-at, first, none_more, nowhere}
use Rattle.std.proofs.Common.{◌∙◌, sym}
use Rattle.fdb_history.proofs.auditing.call_fault.first_call.Goals as goal

pub returns-in-Some : goal.returns-in-Some
returns-in-Some g c =
    first (λ _. g.F.CallFault.Stands c.args.fault.now) c.args.logs.now c.loop-client.client c.in-Some.call _ (calls-at _ _ _ c.loop-client-test.true c.index-logs-client.is ∙ sym c.as_slice.ensures) c.loop-client.invariant c.in-Some.ensures

pub loop-client-preserved : goal.loop-client-preserved
loop-client-preserved g c =
    none_more (λ _. g.F.CallFault.Stands c.args.fault.now) c.args.logs.now c.loop-client.client _ (calls-at _ _ _ c.loop-client-test.true c.index-logs-client.is ∙ sym c.as_slice.ensures) c.loop-client.invariant c.in_default.ensures

pub returns : goal.returns
returns g c = nowhere (λ _. g.F.CallFault.Stands c.args.fault.now) c.args.logs.now c.loop-client.client c.loop-client-test.false c.loop-client.invariant
