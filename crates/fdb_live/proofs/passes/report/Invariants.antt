use Rattle.fdb_live.proofs.passes.report.Given as goal

-- the record that is reported
abbrev pub ghosts-add : goal.ghosts-add
ghosts-add g a = record { rec = a.rec }
