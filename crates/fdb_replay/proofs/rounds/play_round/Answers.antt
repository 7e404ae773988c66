use Rattle.std.proofs.Common.{fold, sym, subst, ◌∙◌}
use Rattle.fdb_client.specs.Settling.{logs_of}
use Rattle.fdb_replay.specs.private.Rounds.{IsPlayed, teach}
use Rattle.fdb_script.specs.Answering.{AnswersRound}
use Rattle.fdb_replay.proofs.Learnt.{learnt}
use Rattle.fdb_replay.proofs.Performed.{round_answered}
use Rattle.fdb_replay.proofs.rounds.play_round.Goals as goal

pub returns-clause-ok : goal.returns-clause-ok
returns-clause-ok g c =
    let old = c.args.clients.items in
    let now = c.in_ok-part.part.clients.items in
    let tells = c.in_ok-part.part.tells.items in
    let commands = c.args.commands.now in
    let played : IsPlayed 0 commands old now tells = rw c.new-round.ensures at c.in_ok-part.ensures in
    let answered = round_answered commands old now (fold teach (logs_of now) tells) tells played (learnt old now tells) in
    subst (λ learnt. AnswersRound (logs_of old) commands learnt) (sym c.in_ok-learn_all.ensures.learnt) answered

pub returns-clause-numbers : goal.returns-clause-numbers
returns-clause-numbers g c = c.in_ok-learn_all.ensures.numbers ∙ c.in_ok-part.ensures.numbers
