use Rattle.std.proofs.Common.{◌≡◌, take}
use Rattle.fdb_history.specs.private.Explaining.{changes_of}
use Rattle.fdb_history.proofs.auditing.registers.changes_of.Given as goal

-- the changes among the events so far have been added
abbrev pub invariant-loop-placed : goal.invariant-loop-placed
invariant-loop-placed l = l.changes.items ≡ changes_of (take l.placed-index l.events)
