use Rattle.std.proofs.Common.{◌<◌, ◌∙◌, ap, length, get_or}
use Rattle.std.proofs.lemmas.List.{set-get_or, take_all}
use Rattle.std.proofs.lemmas.List.Elements.{All-more}
use Rattle.std.specs.Prelude.{slice_set}
use mathlib.Core.List.{IsPrefix}
use Rattle.fdb_proxy.proofs.Batches.{prefix_trans, told_more}
use Rattle.fdb_proxy.proofs.Requests.{same_request}
use Rattle.fdb_proxy.proofs.batch.learn_all.Goals as goal

pub loop-request-preserved : goal.loop-request-preserved
loop-request-preserved g c =
    let index = c.loop-request.request-index in
    let item = c.request-item.result in
    let less : index < length c.args.requests.now = c.loop-request-test.true in
    let asker = get_or c.loop-request.requests index item in
    let told : IsPrefix asker.payload.seen.changes c.learn.new.seen.changes = rw c.split-told.ensures.given at c.learn.ensures.learnt.told in
    record {
      same = ap (λ payload. slice_set c.loop-request.requests index (record { priority = asker.priority; count = asker.count; payload = payload }))
          (same_request asker.payload c.split-told.new.seen _ _ c.split-told.ensures.same)
          ∙ set-get_or c.loop-request.requests index item ∙ c.loop-request.invariant.same;
      reporter = c.learn.ensures.seen.reporter ∙ c.loop-request.invariant.reporter;
      own = c.learn.ensures.own ∙ c.loop-request.invariant.own;
      extends = prefix_trans _ _ _ c.loop-request.invariant.extends c.learn.ensures.seen.extends;
      told = All-more (λ request. IsPrefix request.payload.seen.changes c.learn.new.seen.changes) c.args.requests.now index item less
          (told_more _ _ _ c.learn.ensures.seen.extends c.loop-request.invariant.told)
          (rw c.loop-request.invariant.same at told);
    }

pub returns-clause-told : goal.returns-clause-told
returns-clause-told g c =
    let all = take_all c.loop-request.request-index c.args.requests.now c.loop-request-test.false in
    rw all at c.loop-request.invariant.told
