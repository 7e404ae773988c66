use Rattle.std.proofs.Common.{false}
use Rattle.fdb_bench.proofs.record.measure.Given as goal

-- the service that was just opened
abbrev pub ghosts-measure_named-S-Live : goal.ghosts-measure_named-S-Live
ghosts-measure_named-S-Live g a = record { table = a.opened.table; chained = false }

abbrev pub ghosts-measure_named-S-Service : goal.ghosts-measure_named-S-Service
ghosts-measure_named-S-Service g a = record { epoch_end = 0; recovery = 0; start = a.opened.start; reporters = a.opened.reporters }
