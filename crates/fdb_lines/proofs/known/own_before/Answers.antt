use Rattle.std.proofs.Common.{true}
use Rattle.fdb_lines.proofs.known.own_before.Goals as goal

pub returns : goal.returns
returns c = λ seen lines line are. rw (c.began.ensures, ← c.in_ok-client.was, line) at (c.newest_before.ensures true seen lines are)
