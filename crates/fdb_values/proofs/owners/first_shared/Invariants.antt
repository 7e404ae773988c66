use Rattle.std.specs.BTreeMap.{get}
use Rattle.std.specs.Ordering.{nat_cmp}
use Rattle.fdb_values.proofs.Owned.{AreOwners}
use Rattle.fdb_values.proofs.owners.first_shared.Given as goal

abbrev pub invariant-loop-place : goal.invariant-loop-place
invariant-loop-place l = AreOwners l.lines l.keys l.place (get nat_cmp l.owners)
