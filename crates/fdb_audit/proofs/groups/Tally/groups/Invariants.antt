use Rattle.std.proofs.Common.{◌≡◌, All, take}
use Rattle.fdb_audit.specs.private.{owners_in}
use Rattle.fdb_audit.specs.Tallied.{count_in, IsGroupIn}
use Rattle.fdb_audit.proofs.groups.Tally.groups.Given as goal

-- the groups of the owners so far
abbrev pub invariant-loop-owner : goal.invariant-loop-owner
invariant-loop-owner l = record {
  owners : owners_in l.groups.items ≡ take l.owner-index l.self.owners.items;
  faults : All (IsGroupIn (count_in l.self)) l.groups.items;
}
