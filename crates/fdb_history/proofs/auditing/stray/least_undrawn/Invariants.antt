use Rattle.std.proofs.Common.{take}
use Rattle.fdb_history.specs.private.Auditing.{HasUnmarked, IsLeastIfAny}
use Rattle.fdb_history.proofs.auditing.stray.least_undrawn.Given as goal

-- the least client of the entries before this one that have no mark
abbrev pub invariant-loop-place : goal.invariant-loop-place
invariant-loop-place l = IsLeastIfAny (HasUnmarked (take l.place l.chain) l.drawn) l.least
