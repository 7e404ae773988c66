use Rattle.std.proofs.Common.{◌≡◌, refl, rules}
use Rattle.std.proofs.lemmas.Option.{slice_get_read}
use Rattle.fdb_client.proofs.Left.{one_in_place}
use Rattle.fdb_client.proofs.workload.are_in_place.Goals as goal

pub loop-place-preserved : goal.loop-place-preserved
loop-place-preserved g c =
    let at = slice_get_read c.args.clients.now _ c.loop-place.place c.index-clients-place.result refl c.loop-place-test.true c.index-clients-place.is in
    let own : c.index-clients-place.result.number ≡ c.loop-place.place = search rules in
    one_in_place c.args.clients.now c.loop-place.place c.index-clients-place.result at own c.loop-place.invariant
