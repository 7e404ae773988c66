use Rattle.fdb_command.proofs.output.put.Goals as goal

pub returns-in-Ok-clause-ended : goal.returns-in-Ok-clause-ended
returns-in-Ok-clause-ended g c =
    let whole = rw c.deref-2.ensures.value at c.in-Ok.ensures.ok in
    c.ended.ensures _ _ _ whole
