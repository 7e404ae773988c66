use Rattle.fdb_lines.proofs.WatchStands.{gone_on_from}
use Rattle.fdb_lines.proofs.laws.who_goes_on_from_what_a_watch_kept_tells_the_rest.Goals as goal

pub returns : goal.returns
returns c = gone_on_from
