use Rattle.std.proofs.Common.{◌<◌, ◌≤◌, length, refl, sym, subst, ◌∙◌, arith}
use Rattle.std.specs.List.{FoldsTo}
use Rattle.std.proofs.lemmas.List.{drop_all}
use Rattle.fdb_client.specs.Settling.{logs_of}
use Rattle.fdb_script.specs.Answering.{AnswersRound}
use Rattle.fdb_replay.proofs.Runs.{one_round_more}
use Rattle.fdb_replay.proofs.rounds.play_rounds.Goals as goal

pub loop-commands-preserved : goal.loop-commands-preserved
loop-commands-preserved g c =
    let so_far = c.loop-commands.invariant in
    let place = c.loop-commands.commands-index in
    let commands = c.commands-item.result in
    let rounds = c.args.rounds.now in
    let before = c.loop-commands.clients.items in
    let after = c.in_ok-clients.clients.items in
    let within : place < length rounds = omega (arith, c.loop-commands-test.true, c.loop-commands.auto.commands-index-end) in
    let answered : AnswersRound (logs_of before) commands (logs_of after) =
    subst (λ own. AnswersRound (logs_of before) own (logs_of after)) c.as_slice.ensures c.in_ok-clients.ensures.ok in
    record {
      numbers = c.in_ok-clients.ensures.numbers ∙ so_far.numbers;
      forwards = λ last rest. so_far.forwards last (one_round_more rounds place commands (logs_of before) (logs_of after) last within c.commands-item.is answered rest);
    }

-- where no round is left, all are played
pub returns-clause-ok : goal.returns-clause-ok
returns-clause-ok g c =
    let rounds = c.args.rounds.now in
    let last = logs_of c.loop-commands.clients.items in
    let past : length rounds ≤ c.loop-commands.commands-index = omega (arith, c.loop-commands-test.false, c.loop-commands.auto.commands-index-end) in
    c.loop-commands.invariant.forwards last (subst (λ left. FoldsTo AnswersRound last left last) (sym (drop_all c.loop-commands.commands-index rounds past)) refl)
