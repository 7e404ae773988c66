use Rattle.fdb_live.proofs.passes.draw_any.Given as goal

-- the answer that is drawn
abbrev pub ghosts-draw : goal.ghosts-draw
ghosts-draw g a = record { answer = a.answer }
