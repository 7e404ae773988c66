use Rattle.std.proofs.Common.{refl, subst, sym, take}
use Rattle.std.proofs.lemmas.List.{map_more}
use Rattle.fdb_lines.specs.declared.fault.Found.{Found}
use Rattle.fdb_audit.specs.Groups.{owned_by, Owned}
use Rattle.fdb_audit.specs.private.{grouping_of}
use Rattle.fdb_audit.specs.Tallied.{HasTallied}
use Rattle.fdb_audit.proofs.groups.By.tally.Goals as goal

pub loop-it-preserved : goal.loop-it-preserved
loop-it-preserved c =
    let by = grouping_of c.args.self in
    let found = c.args.found.now in
    let owned : Found → Owned = λ it. record { kind = it.fault; owner = by.owner it.place } in
    subst (HasTallied c.add.new.self) (sym (map_more owned found c.loop-it.it-index _ c.loop-it-test.true))
    (c.in_ok-add.ensures (owned_by by (take c.loop-it.it-index found)) _ (sym c.owner.ensures) refl c.loop-it.invariant)
