use Rattle.std.proofs.Common.{◌≡◌, List, drop}
use Rattle.std.specs.List.{FoldsTo}
use Rattle.fdb_history.specs.declared.log.ClientLog.{ClientLog}
use Rattle.fdb_client.specs.Settling.{logs_of}
use Rattle.fdb_replay.specs.private.Rounds.{numbers_of}
use Rattle.fdb_script.specs.Answering.{AnswersRound}
use Rattle.fdb_replay.proofs.rounds.play_rounds.Given as goal

-- whoever plays the rounds that are left from here has played all
abbrev pub invariant-loop-commands : goal.invariant-loop-commands
invariant-loop-commands g l = record {
  numbers : numbers_of l.clients.items ≡ numbers_of l.fn.clients.items;
  forwards : (last : List ClientLog) → FoldsTo AnswersRound (logs_of l.clients.items) (drop l.commands-index l.rounds) last → FoldsTo AnswersRound (logs_of l.fn.clients.items) l.rounds last;
}
