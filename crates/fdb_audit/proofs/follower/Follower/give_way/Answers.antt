use Rattle.std.proofs.Common.{Option, ap, refl}
use Rattle.fdb_audit.specs.declared.told_faults.ToldFaults.{ToldFaults}
use Rattle.fdb_audit.proofs.follower.Follower.give_way.Goals as goal

pub returns : goal.returns
returns c = record {
  reader = refl;
  watch = refl;
  numbering = refl;
  taken = refl;
  refused = refl;
  counts = refl;
  settled = refl;
  settlings = refl;
  clocks = c.carry.ensures;
  times_are = refl;
  teller = ap (λ (told : Option ToldFaults). record c.args.next.teller { told = told; first = c.args.self.now.teller.first }) c.replace.ensures.value;
  behind = refl;
  before = c.with-next.ensures;
}
