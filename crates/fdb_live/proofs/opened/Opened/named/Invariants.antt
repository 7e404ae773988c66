use Rattle.std.proofs.Common.{is_some}
use Rattle.fdb_live.specs.Seen.{before_of, recovery_of}
use Rattle.fdb_live.proofs.opened.Opened.named.Given as goal

-- the service that was just opened
abbrev pub ghosts-run_under-S-Live : goal.ghosts-run_under-S-Live
ghosts-run_under-S-Live g a = record { table = a.opened.table; chained = is_some a.opened.epoch }

abbrev pub ghosts-run_under-S-Service : goal.ghosts-run_under-S-Service
ghosts-run_under-S-Service g a =
    record { epoch_end = before_of a.opened.epoch; recovery = recovery_of a.opened.epoch; start = a.opened.start; reporters = a.opened.reporters }
