use Rattle.std.proofs.Common.{rules, ◌≡◌, ℕ, ◌<◌, [], Some, IfOk, length, replicate, arith, subst}
use Rattle.std.proofs.lemmas.Result.{IfOk-weaker}
use Rattle.std.specs.List.{FoldsTo, slice_get}
use Rattle.fdb_client.specs.Account.{new_account}
use Rattle.fdb_client.specs.Settling.{logs_of}
use Rattle.fdb_script.specs.Answering.{Answers, AnswersRound}
use Rattle.fdb_replay.proofs.Finished.{no_calls}
use Rattle.fdb_replay.proofs.running.served.Goals as goal

pub returns-then-all_served : goal.returns-then-all_served
returns-then-all_served g c =
    let plan = c.args.script.now in
    let made = c.in_ok-clients.clients in
    let players = c.in_ok-players.players.items in
    let rounds = c.rounds-rounds.result.now in
    let output = c.in_ok-output.field-0.output in
    let count : plan.setup.clients ≡ length made.items = omega (arith, made.ok.0, c.in_ok-clients.ensures.count, c.requires.count, c.requires.clients) in
    let new : (k : ℕ) → k < plan.setup.clients → slice_get made.items k ≡ Some (new_account k [] []) =
    λ k below. c.in_ok-clients.ensures.new k (omega (arith, below, c.in_ok-clients.ensures.count, c.requires.count, c.requires.clients)) in
    let start : logs_of made.items ≡ replicate plan.setup.clients (record { calls = [] }) = no_calls made.items plan.setup.clients count new in
    let played : IfOk output (FoldsTo AnswersRound (logs_of players) rounds) = search rules in
    record {
      answers = IfOk-weaker output (FoldsTo AnswersRound (logs_of players) rounds) (Answers plan)
          (λ logs played. subst (λ before. FoldsTo AnswersRound before plan.rounds logs) start
          (subst (λ clients. FoldsTo AnswersRound (logs_of clients) plan.rounds logs) c.in_ok-players.ensures.players
          (subst (λ rounds. FoldsTo AnswersRound (logs_of players) rounds logs) c.rounds-rounds.ensures played)))
          played;
    }
