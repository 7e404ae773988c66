use Rattle.std.proofs.Common.{true}
use Rattle.fdb_replay.proofs.running.run.Given as goal

-- the service of the script
abbrev pub ghosts-run_named-S-Live : goal.ghosts-run_named-S-Live
ghosts-run_named-S-Live g a = record { table = a.opened.founding.table; chained = true }

abbrev pub ghosts-run_named-S-Service : goal.ghosts-run_named-S-Service
ghosts-run_named-S-Service g a = record { epoch_end = a.opened.config.epoch_end; recovery = a.opened.config.start.version; start = a.opened.founding.start; reporters = a.opened.founding.reporters }
