use Rattle.fdb_proxy.proofs.Requests.{own_options}
use Rattle.fdb_proxy.proofs.desk.Desk.submit.Goals as goal

pub add-requires : goal.add-requires
add-requires g c = own_options c.args.request c.requires.priority c.requires.count
