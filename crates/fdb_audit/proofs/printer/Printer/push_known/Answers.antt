use Rattle.std.proofs.lemmas.Result.{on_ok_weaker}
use Rattle.fdb_audit.proofs.Texts.{written}
use Rattle.fdb_audit.proofs.printer.Printer.push_known.Goals as goal

pub returns-in_ok-write-in-Learnt : goal.returns-in_ok-write-in-Learnt
returns-in_ok-write-in-Learnt c =
    rw (c.in-Some.is, c.in-Learnt.is) (on_ok_weaker c.push_mention-in-Learnt.result
    (written _ _ _ _ _ _ _ c.in_ok-push_line_text-in-Learnt.ensures c.in_ok-write-in-Learnt.ensures.bytes) c.push_mention-in-Learnt.ensures)
