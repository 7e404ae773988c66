use Rattle.std.proofs.Common.{◌≡◌, ap, get_or}
use Rattle.std.proofs.lemmas.Result.{on_ok_weaker}
use Rattle.fdb_history.specs.Replies.{replies_after}
use Rattle.fdb_history.proofs.chains.KeptReplies.{AreRepliesOfAll-push}
use Rattle.fdb_history.proofs.chain.Replies.keep_among.Goals as goal

pub returns-clause-kept : goal.returns-clause-kept
returns-clause-kept c =
    let answer = c.args.answer.now in
    let own = get_or c.args.all.now answer.proxy c.index-all-answer.result in
    on_ok_weaker c.keep.result
    (λ (after : c.keep.new.self ≡ replies_after own answer.ordinal answer.processed) epoch_end recovery answers next were.
    rw after (AreRepliesOfAll-push epoch_end recovery answers c.args.all.now answer own c.requires (ap (get_or c.args.all.now answer.proxy) c.index-all-answer.is) next were))
    c.keep.ensures.ok
