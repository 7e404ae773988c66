use Rattle.std.proofs.Common.{All, arith, ap, subst, sym}
use Rattle.std.proofs.lemmas.Grind.{common_steps}
use Rattle.std.proofs.lemmas.List.{map_push, take_more}
use Rattle.std.proofs.lemmas.List.Elements.{All-push}
use Rattle.fdb_audit.specs.declared.figures.KindCounts.{KindCounts}
use Rattle.fdb_audit.specs.Tallied.{count_in, IsGroupIn}
use Rattle.fdb_audit.proofs.groups.Tally.groups.Goals as goal

pub loop-owner-preserved : goal.loop-owner-preserved
loop-owner-preserved c = record {
  owners = grind (arith, common_steps, map_push, take_more, c.in_ok-push.ensures.items, c.loop-owner.invariant.owners);
  faults = subst (All (IsGroupIn (count_in c.args.self.now))) (sym c.in_ok-push.ensures.items)
      (All-push (IsGroupIn (count_in c.args.self.now)) c.loop-owner.groups.items _ c.loop-owner.invariant.faults (ap (λ (kinds : KindCounts). kinds.faults) c.kinds.ensures.at));
}
