-- A round of a run, as all clients play it. (this product's own)
use Rattle.std.specs.Prelude.{◌≡◌, ℕ, ◌+◌, List, [], ◌∷◌, ◌++◌, length, drop, map}
use Rattle.std.proofs.Common.{set}
use Rattle.std.specs.List.{FoldsTo, flat_map}
use Rattle.fdb_client.specs.Account.{Account}
use Rattle.fdb_history.specs.Added.{AddsCall}
use Rattle.fdb_history.specs.Log.{calls_of}
use Rattle.fdb_history.specs.declared.log.Call.{Call}
use Rattle.fdb_history.specs.declared.log.ClientLog.{ClientLog}
use Rattle.fdb_history.specs.declared.log.Input.{Input}
use Rattle.fdb_history.specs.declared.log.Input.TheVariants as input
use Rattle.fdb_script.specs.Answering.{AnswersCommand, commands_of, learns}
use Rattle.fdb_script.specs.declared.script.Command.{Command}

-- what a client told another: who is told, who tells, and the position that the teller had come to
pub record Tell : Type 0 where
  pub to : ℕ
  pub from : ℕ
  pub position : ℕ

-- the clients' numbers, which a round leaves as they are
abbrev pub numbers_of : List Account → List ℕ
numbers_of clients = map (λ client. client.number) clients

-- A client has called once more, with this input, and has the number that it had.
pub record CallsOnce (before : Account) (wanted : Input) (after : Account) : Type 0 where
  pub number : after.number ≡ before.number
  pub added : AddsCall before.calls wanted after.calls

-- each client, from this one on, has done its commands
abbrev pub PerformsFrom : ℕ → List Command → List Account → List Account → Type 0
PerformsFrom client commands [] [] = Unit {0}
PerformsFrom client commands (before ∷ those) (after ∷ others) =
    FoldsTo AnswersCommand before.calls (commands_of client commands) after.calls
    × PerformsFrom (client + 1) commands those others
PerformsFrom client commands _ _ = ⊥

-- what a client tells by a call with this input
abbrev pub tells_by : ℕ → ℕ → Input → List Tell
tells_by from position (input.Tell to) = record { to = to; from = from; position = position } ∷ []
tells_by from position (input.Grv opts) = []
tells_by from position (input.Ask num processed at) = []
tells_by from position (input.Report num locked metadata min_known) = []
tells_by from position (input.Learn teller) = []

abbrev pub tells_in : ℕ → List Call → List Tell
tells_in from calls = flat_map (λ call. tells_by from call.position call.input) calls

-- what a client, with this number, tells in the calls that it has more than before
abbrev pub tells_since : ℕ → Account → Account → List Tell
tells_since from before after = tells_in from (drop (length before.calls) after.calls)

-- the same of all clients, from this one on
abbrev pub all_tells : ℕ → List Account → List Account → List Tell
all_tells from [] after = []
all_tells from (client ∷ before) [] = []
all_tells from (client ∷ before) (more ∷ after) =
    tells_since from client more ++ all_tells (from + 1) before after

-- the logs of all clients, once what was told is learnt
abbrev pub teach : List ClientLog → Tell → List ClientLog
teach logs tell = set logs tell.to (record {
  calls =
      learns (calls_of logs tell.to) (record { teller = tell.from; position = tell.position });
})

-- These clients, numbered from this one on, have done their commands of a round, and told this by
-- it. Each has the number that it had.
pub record IsPlayed (first : ℕ) (commands : List Command)
    (before after : List Account) (tells : List Tell) : Type 0 where
  pub performed : PerformsFrom first commands before after
  pub numbers : numbers_of after ≡ numbers_of before
  pub told : tells ≡ all_tells first before after
