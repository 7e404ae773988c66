use Rattle.std.proofs.Common.{◌∙◌, sym, ap, map}
use Rattle.fdb_live.specs.Seen.{own_positions}
use Rattle.fdb_proxy.specs.Batch.{own_limits}
use Rattle.fdb_proxy.proofs.Batches.{prefix_trans, told_more, written_back}
use Rattle.fdb_proxy.proofs.batch.serve_batch.Goals as goal

pub reply_all-requires-clause-told : goal.reply_all-requires-clause-told
reply_all-requires-clause-told g c =
    let back = written_back c.args.requests.len c.args.requests.items c.learn_all.new.requests (c.learn_all.ensures.same ∙ c.as_mut_slice.ensures.value) c.args.requests.ok.0 in
    let told = rw c.as_mut_slice.ensures.value at c.learn_all.ensures.told in
    rw back (told_more c.learn_all.new.seen.changes c.read-fetched.new.seen.changes c.args.requests.items c.read-fetched.ensures.seen.extends told)

pub returns-clause-replies : goal.returns-clause-replies
returns-clause-replies g c =
    let back = written_back c.args.requests.len c.args.requests.items c.learn_all.new.requests (c.learn_all.ensures.same ∙ c.as_mut_slice.ensures.value) c.args.requests.ok.0 in
    let limits = c.in-Ok.ensures.limits ∙ ap (map (own_limits c.args.queue.now.throttles)) (c.as_slice.ensures.value ∙ sym back) in
    let all = c.reply_all.ensures.replies c.args.queue.now.throttles limits in
    rw back at all

pub returns-clause-reporter : goal.returns-clause-reporter
returns-clause-reporter g c = ap (λ sight. sight.reporter) c.reply_all.ensures.same ∙ c.read-fetched.ensures.seen.reporter ∙ c.learn_all.ensures.reporter

pub returns-clause-extends : goal.returns-clause-extends
returns-clause-extends g c = rw c.reply_all.ensures.same (prefix_trans c.args.seen.now.changes c.learn_all.new.seen.changes c.read-fetched.new.seen.changes c.learn_all.ensures.extends c.read-fetched.ensures.seen.extends)

pub returns-clause-own : goal.returns-clause-own
returns-clause-own g c = ap own_positions c.reply_all.ensures.same ∙ c.read-fetched.ensures.own ∙ c.learn_all.ensures.own
