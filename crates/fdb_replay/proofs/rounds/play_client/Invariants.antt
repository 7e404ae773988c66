use Rattle.std.proofs.Common.{◌≡◌, List, drop}
use Rattle.std.specs.List.{FoldsTo}
use Rattle.fdb_history.specs.declared.log.Call.{Call}
use Rattle.fdb_replay.specs.private.Rounds.{tells_since}
use Rattle.fdb_script.specs.Answering.{AnswersCommand, commands_of}
use Rattle.fdb_replay.proofs.Grown.{Grows}
use Rattle.fdb_replay.proofs.rounds.play_client.Given as goal

-- whoever does what is left from here has done all
abbrev pub invariant-loop-command : goal.invariant-loop-command
invariant-loop-command g l = record {
  grown : Grows l.fn.client.calls l.client.calls;
  number : l.client.number ≡ l.fn.client.number;
  told : l.tells.items ≡ tells_since l.number l.fn.client l.client;
  forwards : (last : List Call) → FoldsTo AnswersCommand l.client.calls (commands_of l.number (drop l.command-index l.commands)) last → FoldsTo AnswersCommand l.fn.client.calls (commands_of l.number l.commands) last;
}
