use Rattle.std.proofs.Common.{ap, true}
use Rattle.fdb_history.specs.declared.chain.Issued.{Issued}
use Rattle.fdb_live.proofs.Above.{contains_at}
use Rattle.fdb_live.proofs.live_record.LiveRecord.distinct.Goals as goal

pub returns-clause-versions : goal.returns-clause-versions
returns-clause-versions g c same =
    let one : Issued = record c.args.one { fresh = true } in
    let other : Issued = record c.args.other { fresh = true } in
    let has = contains_at c.args.first.now.answers c.args.one.ordinal one c.requires.one in
    let has_other = contains_at c.args.second.now.answers c.args.other.ordinal other c.requires.other in
    c.requires.proxies (ap (λ (answer : Issued). answer.proxy) (c.meet.ensures.unique one other has has_other same))
