use Rattle.std.proofs.Common.{false}
use Rattle.fdb_tests.proofs.live.played.Given as goal

-- the service that was just opened
abbrev pub ghosts-played_named-S-Live : goal.ghosts-played_named-S-Live
ghosts-played_named-S-Live g a = record { table = a.opened.table; chained = false }

abbrev pub ghosts-played_named-S-Service : goal.ghosts-played_named-S-Service
ghosts-played_named-S-Service g a = record { epoch_end = 0; recovery = 0; start = a.opened.start; reporters = a.opened.reporters }
