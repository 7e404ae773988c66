use Rattle.std.proofs.Common.{◌++◌, List, map, subst, take_all}
use Rattle.fdb_lines.specs.declared.fault.Finding.{Finding}
use Rattle.fdb_audit.specs.ToldFaults.{ToldFault, told_at}
use Rattle.fdb_audit.specs.private.{shown_in}
use Rattle.fdb_audit.specs.private.Followed.{HasCounted}
use Rattle.fdb_audit.proofs.Totalled.{map_more}
use Rattle.fdb_audit.proofs.teller.count_in.Goals as goal

pub loop-finding-preserved : goal.loop-finding-preserved
loop-finding-preserved c = λ members before has.
    let it = shown_in c.args.printer in
    let told_of : Finding → ToldFault = λ finding. told_at it.lines it.names it.beside finding.found in
    subst (HasCounted members c.add.new.self) (map_more told_of before c.args.found.now c.loop-finding.finding-index _ c.loop-finding-test.true)
    (c.in_ok-add.ensures members _ (c.loop-finding.invariant members before has))

pub returns : goal.returns
returns c = λ members before has.
    let it = shown_in c.args.printer in
    let told_of : Finding → ToldFault = λ finding. told_at it.lines it.names it.beside finding.found in
    subst (λ (found : List Finding). HasCounted members c.loop-finding.told (before ++ map told_of found))
    (take_all c.loop-finding.finding-index c.args.found.now c.loop-finding-test.false) (c.loop-finding.invariant members before has)
