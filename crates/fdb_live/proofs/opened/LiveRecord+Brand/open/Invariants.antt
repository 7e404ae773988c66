use Rattle.fdb_live.proofs.opened.LiveRecord+Brand.open.Given as goal

-- the service that was just opened
abbrev pub ghosts-open_as-S-Service : goal.ghosts-open_as-S-Service
ghosts-open_as-S-Service g a = record { epoch_end = 0; recovery = 0; start = a.start; reporters = a.reporters }

abbrev pub ghosts-open_as-K-Kind : goal.ghosts-open_as-K-Kind
ghosts-open_as-K-Kind g a = record { epoch = a.epoch }
