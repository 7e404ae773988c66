use Rattle.fdb_lines.proofs.WatchStands.{watch_stands}
use Rattle.fdb_lines.proofs.laws.what_a_watch_keeps_stands_for_all.Goals as goal

pub returns : goal.returns
returns c = λ watch lines keys places seen are rising. watch_stands watch lines keys seen places are rising
