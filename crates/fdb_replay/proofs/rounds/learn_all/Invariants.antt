use Rattle.std.proofs.Common.{◌≡◌, fold}
use Rattle.fdb_client.specs.Settling.{logs_of}
use Rattle.fdb_replay.specs.private.Rounds.{numbers_of, teach}
use Rattle.fdb_replay.proofs.rounds.learn_all.Given as goal

-- what was yielded is learnt
abbrev pub invariant-loop-tell : goal.invariant-loop-tell
invariant-loop-tell g l = record {
  learnt : logs_of l.clients.items ≡ fold teach (logs_of l.fn.clients.items) l.yielded;
  numbers : numbers_of l.clients.items ≡ numbers_of l.fn.clients.items;
}
