use Rattle.std.proofs.Common.{arith, ap, sym, ◌∙◌}
use Rattle.std.proofs.lemmas.Option.{same_Some, slice_get_within}
use Rattle.fdb_live.specs.Seen.{Sight}
use Rattle.fdb_client.specs.Settling.{AreTokensOf, HaveNoFault}
use Rattle.fdb_client.proofs.Settled.{counted, faultless, minima, no_low, settled_by, still_agree}
use Rattle.fdb_client.proofs.settled_run.settle.Goals as goal

pub returns : goal.returns
returns g c =
    let start = g.S.Service.start in
    let reporters = g.S.Service.reporters in
    let logs = c.args.logs.now in
    let old = c.args.tokens.now in
    let new = c.gather.new.others in
    let first : Sight = c.gather.new.first in
    let known = c.requires in
    let gathered = c.gather.ensures in
    let settled = settled_by start reporters logs first old new known.logs gathered.each known.count known.numbered known.agree gathered.log.numbered in
    let faults : HaveNoFault start logs = record { faultless = faultless start logs first.changes settled; minima = minima start logs first.changes settled; above = no_low start logs first.changes settled } in
    let tokens : AreTokensOf start reporters logs new = record {
      count = gathered.together.count;
      numbered = λ k token at.
          let is = sym (gathered.together.one_list k (omega (arith, gathered.together.count, slice_get_within new k token at))) ∙ at in
          ap (λ (one : Sight). one.reporter) (sym (same_Some _ token is));
      agree = still_agree start reporters logs first old new known.logs gathered.each known.count gathered.together.count settled;
    } in
    record {
      changes = cc (gathered.position, counted start logs first.changes settled);
      settled = faults;
      position = gathered.position;
      first = gathered.first;
      each = gathered.each;
      tokens = tokens;
    }
