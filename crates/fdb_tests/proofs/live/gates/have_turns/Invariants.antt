use Rattle.std.proofs.Common.{true}
use Rattle.fdb_live.specs.Seen.{recovery_of}
use Rattle.fdb_tests.proofs.live.gates.have_turns.Given as goal

-- the service that was just opened
abbrev pub ghosts-are_in_turn-S-Live : goal.ghosts-are_in_turn-S-Live
ghosts-are_in_turn-S-Live g a = record { table = a.opened.table; chained = true }

abbrev pub ghosts-are_in_turn-S-Service : goal.ghosts-are_in_turn-S-Service
ghosts-are_in_turn-S-Service g a = record { epoch_end = 0; recovery = recovery_of a.opened.epoch; start = a.opened.start; reporters = a.opened.reporters }
