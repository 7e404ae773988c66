use Rattle.std.proofs.Common.{true}
use Rattle.fdb_live.specs.Seen.{recovery_of}
use Rattle.fdb_tests.proofs.live.asked.Given as goal

-- the service that was just opened
abbrev pub ghosts-asked_named-S-Live : goal.ghosts-asked_named-S-Live
ghosts-asked_named-S-Live g a = record { table = a.opened.table; chained = true }

abbrev pub ghosts-asked_named-S-Service : goal.ghosts-asked_named-S-Service
ghosts-asked_named-S-Service g a = record { epoch_end = 0; recovery = recovery_of a.opened.epoch; start = a.opened.start; reporters = a.opened.reporters }
