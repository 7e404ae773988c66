use Rattle.std.proofs.lemmas.Result.{on_ok_weaker}
use Rattle.fdb_audit.proofs.Texts.{two_written}
use Rattle.fdb_audit.proofs.groups.By.push_head.Goals as goal

pub returns-in_ok-write-2 : goal.returns-in_ok-write-2
returns-in_ok-write-2 c =
    rw c.if-json.false (on_ok_weaker c.push_name-else-json.result (two_written _ _ _ _ _ c.in_ok-write-2.ensures.bytes) c.push_name-else-json.ensures)
