use Rattle.std.proofs.Common.{◌≡◌, false, refl, sym, take, ◌∙◌, arith}
use Rattle.std.proofs.lemmas.Bool.{both_ways}
use Rattle.std.proofs.lemmas.Option.{slice_get_read, slice_get_within}
use Rattle.fdb_history.specs.Strays.{is_justified}
use Rattle.fdb_history.proofs.faults.FirstCalls.{call_more}
use Rattle.fdb_history.proofs.Lists.{take-push}
use Rattle.fdb_history.proofs.chains.Own.{OwnAfter-call, justified-same}
use Rattle.fdb_history.proofs.auditing.stray.first_of.Goals as goal

pub loop-place-preserved : goal.loop-place-preserved
loop-place-preserved c =
    let at = slice_get_read c.args.calls.now _ c.loop-place.place c.index-calls-place.result refl c.loop-place-test.true c.index-calls-place.is in
    let by = sym c.is_justified_by.ensures ∙ c.if-not-is_justified_by.false in
    let same = justified-same c.args.chain.now c.args.client (take c.loop-place.place c.args.calls.now) c.loop-place.own c.index-calls-place.result c.loop-place.invariant.own in
    record {
      own = rw (take-push c.args.calls.now c.loop-place.place c.index-calls-place.result at, c.in_ok-keep_drawn.ensures) (OwnAfter-call c.args.chain.now c.args.client (take c.loop-place.place c.args.calls.now) c.loop-place.own c.index-calls-place.result c.loop-place.invariant.own by);
      justified = call_more (λ before call. is_justified c.args.chain.now c.args.client before call ≡ false) c.args.calls.now c.loop-place.place c.index-calls-place.result at (λ isnt. both_ways (is_justified c.args.chain.now c.args.client (take c.loop-place.place c.args.calls.now) c.index-calls-place.result) isnt (same ∙ by)) c.loop-place.invariant.justified;
    }

pub returns : goal.returns
returns c = λ p call at. c.loop-place.invariant.justified p call (omega (arith, c.loop-place-test.false, slice_get_within c.args.calls.now p call at)) at
