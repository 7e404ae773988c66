-- The logs of a run answer a plan: each client did its commands, in their order, learnt what others
-- told it, and logged nothing else. (this product's own)
use Rattle.std.specs.Prelude.{◌≡◌, ℕ, ◌+◌, ◌<◌, ◌==◌, max, Bool, false, List, [], ◌∷◌, ◌++◌, length, map, filter, fold, drop, replicate}
use Rattle.std.specs.List.{FoldsTo}
use Rattle.fdb_history.specs.Added.{AddsCall}
use Rattle.fdb_history.specs.Log.{calls_of, fresh_answers, position_after_calls}
use Rattle.fdb_history.specs.declared.log.Call.{Call}
use Rattle.fdb_history.specs.declared.log.CallAnswer.TheVariants as answer
use Rattle.fdb_history.specs.declared.log.ClientLog.{ClientLog}
use Rattle.fdb_history.specs.declared.log.Input.{Input}
use Rattle.fdb_history.specs.declared.log.Input.TheVariants as input
use Rattle.fdb_script.specs.Plan.{Plan}
use Rattle.fdb_script.specs.declared.script.Act.{Act}
use Rattle.fdb_script.specs.declared.script.Act.TheVariants.{Grv, Ask, Reask, Report, Tell}
use Rattle.fdb_script.specs.declared.script.Command.{Command}

-- What a client calls for an act, after its calls so far. To ask is to ask for the commit version
-- after those that it has got.
abbrev pub input_of : List Call → Act → Input
input_of before (Grv opts) = input.Grv opts
input_of before (Ask processed at) = input.Ask (length (fresh_answers before) + 1) processed at
input_of before (Reask num processed at) = input.Ask num processed at
input_of before (Report num locked metadata min_known) =
    input.Report num locked metadata min_known
input_of before (Tell to) = input.Tell to

-- One more call was made, the one that this command says.
abbrev pub AnswersCommand : List Call → Command → List Call → Type 0
AnswersCommand before command after = AddsCall before (input_of before command.act) after

-- the commands of one client among those of a round
abbrev pub commands_of : ℕ → List Command → List Command
commands_of client commands = filter (λ command. command.client == client) commands

-- Each client has a call more for each of its commands. These are those of the round, in their
-- order.
pub record Performs (before : List ClientLog) (commands : List Command)
    (after : List ClientLog) : Type 0 where
  pub same_clients : length after ≡ length before
  pub each : (client : ℕ) → client < length before
      → FoldsTo AnswersCommand (calls_of before client) (commands_of client commands)
      (calls_of after client)

-- What a client was told: by whom, and up to which position. So far the teller had seen the
-- register.
pub record Told : Type 0 where
  pub teller : ℕ
  pub position : ℕ

-- A client's calls, with one more, by which it learns. From then on it has seen what the teller had
-- seen, too.
abbrev pub learns : List Call → Told → List Call
learns before told =
    before ++ record {
      input = input.Learn told.teller;
      asked = position_after_calls 0 before;
      position = max (position_after_calls 0 before) told.position;
      answer = answer.Told;
    } ∷ []

-- whether a call tells this client what its caller has seen
abbrev pub tells : ℕ → Input → Bool
tells client (input.Grv opts) = false
tells client (input.Ask num processed at) = false
tells client (input.Report num locked metadata min_known) = false
tells client (input.Tell to) = to == client
tells client (input.Learn from) = false

-- What a client was told in these calls, by teller. They are those of the clients from this one on,
-- and of each in order.
abbrev pub told_from : ℕ → ℕ → List (List Call) → List Told
told_from client teller [] = []
told_from client teller (calls ∷ others) =
    map (λ call. record { teller = teller; position = call.position })
    (filter (λ call. tells client call.input) calls)
    ++ told_from client (teller + 1) others

-- the calls that each client has more than before
abbrev pub added_calls : List ClientLog → List ClientLog → List (List Call)
added_calls [] logs = []
added_calls (log ∷ before) [] = []
added_calls (log ∷ before) (after ∷ logs) =
    drop (length log.calls) after.calls ∷ added_calls before logs

-- The logs, with what each client learns of these calls. They are those of the clients from this
-- one on.
abbrev pub learnt_from : ℕ → List (List Call) → List ClientLog → List ClientLog
learnt_from client calls [] = []
learnt_from client calls (log ∷ logs) =
    record { calls = fold learns log.calls (told_from client 0 calls) }
    ∷ learnt_from (client + 1) calls logs

-- A round's commands are performed, then what was told is learnt.
pub record AnswersRound (before : List ClientLog) (commands : List Command)
    (after : List ClientLog) : Type 0 where
  pub performed : List ClientLog
  pub performs : Performs before commands performed
  pub learnt : after ≡ learnt_from 0 (added_calls before performed) performed

-- a log for each client, grown round by round from nothing
abbrev pub Answers : Plan → List ClientLog → Type 0
Answers plan logs =
    FoldsTo AnswersRound (replicate plan.setup.clients (record { calls = [] })) plan.rounds logs
