use Rattle.std.proofs.Common.{false}
use Rattle.fdb_tests.proofs.live.opened.Given as goal

-- the service that was just opened
abbrev pub ghosts-parted-S-Live : goal.ghosts-parted-S-Live
ghosts-parted-S-Live g a = record { table = a.opened.table; chained = false }

abbrev pub ghosts-parted-S-Service : goal.ghosts-parted-S-Service
ghosts-parted-S-Service g a = record { epoch_end = 0; recovery = 0; start = a.opened.start; reporters = a.opened.reporters }
