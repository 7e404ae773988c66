use Rattle.std.proofs.Common.{true}
use Rattle.fdb_uses.proofs.proxies.two_readers.Given as goal

-- the service of the cluster
abbrev pub ghosts-read_side_by_side-S-Live : goal.ghosts-read_side_by_side-S-Live
ghosts-read_side_by_side-S-Live g a = record { table = a.opened.founding.table; chained = true }

abbrev pub ghosts-read_side_by_side-S-Service : goal.ghosts-read_side_by_side-S-Service
ghosts-read_side_by_side-S-Service g a = record { epoch_end = a.opened.config.epoch_end; recovery = a.opened.config.start.version; start = a.opened.founding.start; reporters = a.opened.founding.reporters }
