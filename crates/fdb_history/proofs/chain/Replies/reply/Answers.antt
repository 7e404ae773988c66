use Rattle.std.proofs.Common.{slice_get, ap, ◌∙◌}
use Rattle.std.specs.Option.{option_and_then}
use Rattle.fdb_history.proofs.chains.KeptReplies.{reply-of_the_request}
use Rattle.fdb_history.proofs.chain.Replies.reply.Goals as goal

pub returns-clause-of_the_request : goal.returns-clause-of_the_request
returns-clause-of_the_request c = λ proxy are.
    let answers = c.args.answers.now in
    reply-of_the_request proxy answers c.args.self.now c.args.num _ are (c.answer_at.ensures ∙ ap (option_and_then (slice_get answers)) c.place_of.ensures)
