use Rattle.std.proofs.Common.{◌≡◌, false, ◌∙◌, sym}
use Rattle.fdb_history.specs.Strays.{is_justified}
use Rattle.fdb_history.proofs.faults.FirstCalls.{calls-at, first, none_more, nowhere}
use Rattle.fdb_history.proofs.auditing.stray.first_not_justified.Goals as goal

pub returns-in-Some : goal.returns-in-Some
returns-in-Some c =
    let found = rw c.in-Some.is at c.in_ok-call.ensures in
    first (λ client before call. is_justified c.args.chain.now client before call ≡ false) c.args.logs.now c.loop-client.client c.in-Some.call c.as_slice.result.now (calls-at _ _ _ c.loop-client-test.true c.index-logs-client.is ∙ sym c.as_slice.ensures) c.loop-client.invariant found

pub loop-client-preserved : goal.loop-client-preserved
loop-client-preserved c =
    let none = rw c.in_default.is at c.in_ok-call.ensures in
    none_more (λ client before call. is_justified c.args.chain.now client before call ≡ false) c.args.logs.now c.loop-client.client c.as_slice.result.now (calls-at _ _ _ c.loop-client-test.true c.index-logs-client.is ∙ sym c.as_slice.ensures) c.loop-client.invariant none

pub returns : goal.returns
returns c = nowhere (λ client before call. is_justified c.args.chain.now client before call ≡ false) c.args.logs.now c.loop-client.client c.loop-client-test.false c.loop-client.invariant
