use Rattle.std.proofs.Common.{true}
use Rattle.fdb_uses.proofs.master.two_threads.Given as goal

-- the service that was just opened
abbrev pub ghosts-draw_named-S-Live : goal.ghosts-draw_named-S-Live
ghosts-draw_named-S-Live g a = record { table = a.opened.table; chained = true }

abbrev pub ghosts-draw_named-S-Service : goal.ghosts-draw_named-S-Service
ghosts-draw_named-S-Service g a = record { epoch_end = 0; recovery = 100; start = a.opened.start; reporters = a.opened.reporters }
