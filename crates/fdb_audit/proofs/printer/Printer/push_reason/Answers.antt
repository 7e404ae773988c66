use Rattle.std.proofs.Common.{◌∙◌, append_assoc}
use Rattle.std.proofs.lemmas.Result.{on_ok_weaker}
use Rattle.fdb_audit.proofs.Texts.{two_written}
use Rattle.fdb_audit.proofs.printer.Printer.push_reason.Goals as goal

pub returns-in_ok-write-in-Known : goal.returns-in_ok-write-in-Known
returns-in_ok-write-in-Known c =
    rw c.in-Known.is
    (on_ok_weaker c.push_known.result (λ e. e ∙ rw (c.in_ok-write-in-Known.ensures.bytes, c.in_ok-push_late-in-Known.ensures) (simp append_assoc))
    c.push_known.ensures)

pub returns-in-Unreported : goal.returns-in-Unreported
returns-in-Unreported c = rw c.in-Unreported.is c.write-in-Unreported.ensures.bytes

pub returns-in-Undrawn : goal.returns-in-Undrawn
returns-in-Undrawn c = rw c.in-Undrawn.is c.write-in-Undrawn.ensures.bytes

pub returns-in_ok-write-in-Reported : goal.returns-in_ok-write-in-Reported
returns-in_ok-write-in-Reported c =
    rw (c.in-Reported.is, ← c.is_by.ensures, c.if-is_by.true)
    (on_ok_weaker c.push_known-then-is_by.result (two_written _ _ _ _ _ c.in_ok-write-in-Reported.ensures.bytes) c.push_known-then-is_by.ensures)

pub returns-in_ok-write-in-Reported-3 : goal.returns-in_ok-write-in-Reported-3
returns-in_ok-write-in-Reported-3 c =
    rw (c.in-Reported.is, ← c.is_by.ensures, c.if-is_by.false)
    (on_ok_weaker c.push_known-else-is_by.result
    (λ e. e ∙ rw (c.in_ok-write-in-Reported-3.ensures.bytes, c.in_ok-push_mention-in-Reported.ensures, c.in_ok-write-in-Reported-2.ensures.bytes) (simp append_assoc))
    c.push_known-else-is_by.ensures)
