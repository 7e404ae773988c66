use Rattle.std.proofs.Common.{true}
use Rattle.fdb_live.specs.Seen.{recovery_of}
use Rattle.fdb_service_tests.proofs.stand.play.Given as goal

-- the service that was just opened
abbrev pub ghosts-play_named-S-Live : goal.ghosts-play_named-S-Live
ghosts-play_named-S-Live g a = record { table = a.opened.table; chained = true }

abbrev pub ghosts-play_named-S-Service : goal.ghosts-play_named-S-Service
ghosts-play_named-S-Service g a = record { epoch_end = 0; recovery = recovery_of a.opened.epoch; start = a.opened.start; reporters = a.opened.reporters }
